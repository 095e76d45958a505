-- Multipliers while the steps of a trail are undone.
use Rattle.std.proofs.Common.{to_z, of_z, w8, ◌≡◌, ℕ, ◌+◌, ◌<◌, ◌≤◌, Bool, true, false, not, cond, List, [], ◌∷◌, ◌++◌, length, set, ℤ, pos, negsuc, neg_ℤ, ◌+ℤ◌, ◌⊎◌, inl, inr, refl, sym, arith, ap, ◌∙◌, eqb, subst}
use Rattle.std.specs.Prelude.{reverse}
use Rattle.std.proofs.lemmas.Int.{ints}
use Rattle.std.proofs.lemmas.Bool.{cases_eq, eq-eqb, ne_eqb}
use Rattle.std.proofs.lemmas.List.{get_or-set_same, get_or-set_other, length-set, get_or_append_left, get_or_push, get_or_past, length_push}
use Rattle.xc_model.proofs.Integers.{lt_or_le}
use Rattle.xc_forest.specs.Forests.{IsUnit, multiplier_at, number_with_sign, ranges_of}
use Rattle.xc_lists.specs.Members.{IsIn}
use Rattle.xc_forest.specs.Steps.Links.{graph_of, vertices, IsListing}
use Rattle.xc_forest.specs.Steps.Scaled.{scale_of, first_spans}
use Rattle.xc_forest.specs.Steps.Shares.{IsShare, IsShareOf, AreZero}
use Rattle.xc_forest.specs.Steps.Trails.{AreRefuted, IsClash, with_point, with_row, with_alone}
use Rattle.xc_forest.specs.Steps.Vertices.{Graph, Span, part, IsMeet, span_with_sign, Refutes, bound}
use Rattle.xc_forest.specs.declared.links.Link.{Link}
use Rattle.xc_forest.specs.declared.spans.Bounds.{Bounds}
use Rattle.xc_forest.specs.declared.types.Forest.{Forest}
use Rattle.xc_forest.specs.declared.undos.Clash.{Clash}
use Rattle.xc_forest.specs.declared.undos.Undo.{Undo}
use Rattle.xc_forest.specs.declared.undos.Undo.TheVariants as undo
use Rattle.xc_forest.proofs.LoneSteps.{alone_contradicts}
use Rattle.xc_forest.proofs.PointSteps.{point_contradicts}
use Rattle.xc_forest.proofs.RowSteps.{row_contradicts}
use Rattle.xc_forest.proofs.Sums.{apart}
use Rattle.xc_forest.proofs.Undoings.{PointTaken, point_taken, RowTaken, row_taken, AloneTaken, alone_taken, last_of, once_of, below}
use Rattle.xc_model.specs.Parts.{Parts}

-- ---- shares
pub turn_unit : (b : Bool) (u : ℤ) → IsUnit u → IsUnit (number_with_sign b u)
turn_unit false u h = h
turn_unit true u (inl e) = inl (rw e)
turn_unit true u (inr (inl e)) = inr (inr (rw e))
turn_unit true u (inr (inr e)) = inr (inl (rw e))

turn_twice : (b : Bool) (u : ℤ) → pos 0 +ℤ number_with_sign b (number_with_sign b u) ≡ u
turn_twice false u = omega (arith, ints)
turn_twice true u = omega (arith, ints)

turn_none : (b : Bool) (u : ℤ) → u +ℤ number_with_sign b (pos 0) ≡ u
turn_none false u = omega (arith, ints)
turn_none true u = omega (arith, ints)

turned_low : (b c : Bool) (y : Span) → part c (span_with_sign b y).low ≡ bound c (number_with_sign b (pos 1)) y
turned_low false c y = refl
turned_low true false y = refl
turned_low true true y = refl

turned_high : (b c : Bool) (y : Span) → neg_ℤ (part c (span_with_sign b y).high) ≡ bound c (number_with_sign b (negsuc 0)) y
turned_high false c y = refl
turned_high true false y = omega (arith, ints)
turned_high true true y = omega (arith, ints)

none_turned : (b : Bool) → number_with_sign b (pos 0) ≡ pos 0
none_turned false = refl
none_turned true = refl

-- what multipliers of x and y stand for one of what they have in common
pub record Stands (b : Bool) (x y m : Span) (u up ur : ℤ) : Type 0 where
  pub balance : up +ℤ number_with_sign b ur ≡ u
  pub point : IsUnit up
  pub row : IsUnit ur
  pub ends : (c : Bool) → bound c u m ≡ bound c up x +ℤ bound c ur y

pub unit_share : (f b : Bool) (u up ur : ℤ) → IsUnit u → IsShareOf f b u up ur → (up +ℤ number_with_sign b ur ≡ u) × IsUnit up × IsUnit ur
unit_share true b u up ur h s = rw (s.0, s.1) ((turn_twice b u, inl refl, turn_unit b u h))
unit_share false b u up ur h s = rw (s.0, s.1) ((turn_none b u, h, inl refl))

low_ends : (f b : Bool) (x y m : Span) (up ur : ℤ) → m.low ≡ cond f (span_with_sign b y).low x.low → IsShareOf f b (pos 1) up ur → (c : Bool) → part c m.low ≡ bound c up x +ℤ bound c ur y
low_ends true b x y m up ur e s c = rw (s.0, s.1) (let k : part c m.low ≡ bound c (number_with_sign b (pos 1)) y = ap (part c) e ∙ turned_low b c y in omega (arith, ints))
low_ends false b x y m up ur e s c = rw (s.0, s.1) (let k : part c m.low ≡ part c x.low = ap (part c) e in omega (arith, ints))

high_ends : (f b : Bool) (x y m : Span) (up ur : ℤ) → m.high ≡ cond f (span_with_sign b y).high x.high → IsShareOf f b (negsuc 0) up ur → (c : Bool) → neg_ℤ (part c m.high) ≡ bound c up x +ℤ bound c ur y
high_ends true b x y m up ur e s c = rw (s.0, s.1) (let k : neg_ℤ (part c m.high) ≡ bound c (number_with_sign b (negsuc 0)) y = ap (λ z. neg_ℤ (part c z)) e ∙ turned_high b c y in omega (arith, ints))
high_ends false b x y m up ur e s c = rw (s.0, s.1) (let k : part c m.high ≡ part c x.high = ap (part c) e in omega (arith, ints))

no_ends_of : (f b : Bool) (x y : Span) (up ur : ℤ) → IsShareOf f b (pos 0) up ur → (c : Bool) → pos 0 ≡ bound c up x +ℤ bound c ur y
no_ends_of true b x y up ur s c = rw (s.0, s.1, none_turned b) refl
no_ends_of false b x y up ur s c = rw (s.0, s.1) refl

stands : (b lo hi : Bool) (x y m : Span) (u up ur : ℤ) → IsMeet lo hi x (span_with_sign b y) m → IsUnit u → IsShare b lo hi u up ur → Stands b x y m u up ur
stands b lo hi x y m u up ur w h s =
    let k = unit_share s.is_of_row b u up ur h s.share in
    record { balance = k.0; point = k.1; row = k.2; ends = ends h }
  where
    ends : IsUnit u → (c : Bool) → bound c u m ≡ bound c up x +ℤ bound c ur y
    ends (inl e) c = rw e (no_ends_of s.is_of_row b x y up ur (subst (λ (z : ℤ). IsShareOf s.is_of_row b z up ur) e s.share) c)
    ends (inr (inl e)) c = rw e (low_ends s.is_of_row b x y m up ur (w.low ∙ ap (λ (f : Bool). cond f (span_with_sign b y).low x.low) (sym (s.low e))) (subst (λ (z : ℤ). IsShareOf s.is_of_row b z up ur) e s.share) c)
    ends (inr (inr e)) c = rw e (high_ends s.is_of_row b x y m up ur (w.high ∙ ap (λ (f : Bool). cond f (span_with_sign b y).high x.high) (sym (s.high e))) (subst (λ (z : ℤ). IsShareOf s.is_of_row b z up ur) e s.share) c)

-- 1, -1 and 0 fit a byte
pub cast_unit : (k : ℤ) → IsUnit k → to_z w8 (of_z w8 k) ≡ k
cast_unit k (inl e) = rw e refl
cast_unit k (inr (inl e)) = rw e refl
cast_unit k (inr (inr e)) = rw e refl

-- ---- multipliers are exchanged
units_set : (us : List ℤ) (v : ℕ) (u : ℤ) → v < length us → IsUnit u → ((w : ℕ) → IsUnit (multiplier_at us w)) → (w : ℕ) → IsUnit (multiplier_at (set us v u) w)
units_set us v u l h k w = go (cases_eq w v)
  where
    go : ((w ≡ v) ⊎ (w ≡ v → ⊥)) → IsUnit (multiplier_at (set us v u) w)
    go (inl e) = rw (e, get_or-set_same us v u (pos 0) l) h
    go (inr m) = rw (get_or-set_other us v w u (pos 0) m) (k w)

pub zero_push : (us : List ℤ) → AreZero us → AreZero (us ++ pos 0 ∷ [])
zero_push us h v = go (cases_eq v (length us)) (lt_or_le v (length us))
  where
    go : ((v ≡ length us) ⊎ (v ≡ length us → ⊥)) → ((v < length us) ⊎ (length us ≤ v)) → multiplier_at (us ++ pos 0 ∷ []) v ≡ pos 0
    go (inl e) l = rw e (get_or_push us (pos 0) (pos 0) (length us) refl)
    go (inr e) (inl l) = get_or_append_left us (pos 0 ∷ []) (pos 0) v l ∙ h v
    go (inr e) (inr l) = get_or_past (us ++ pos 0 ∷ []) v (pos 0) (omega (arith, length_push us (pos 0)))

module _ {E : Type 0} (parts : E → Parts) (forest : Forest E) (links : List Link) (listing : IsListing (graph_of (length forest.ranges) forest.rows) (length forest.ranges + length forest.rows) links) (undos : List (Undo E)) where
  abbrev scale : ℕ
  scale = scale_of (ranges_of parts forest.ranges)

  abbrev graph : Graph
  graph = graph_of (length forest.ranges) forest.rows

  abbrev firsts : ℕ → Span
  firsts = first_spans (ranges_of parts forest.ranges)

  module _ (p r : ℕ) (b : Bool) (x y : Bounds E) (ms : List ℤ) (h : AreRefuted parts forest links (with_point undos p r b x y) ms) where
    taken_point : PointTaken parts scale graph (vertices links) firsts (reverse undos) p r b x y h.left h.now
    taken_point = point_taken parts scale graph (vertices links) firsts (reverse undos) p r b x y h.left h.now (last_of parts forest links listing undos (undo.Point p r b x y) h.left h.now h.trail)

    pub point_row_known : r < length ms
    point_row_known = let t = taken_point in below parts forest links listing undos (length ms) h.each (p ∷ h.left) t.before t.trail r (inr t.leaf.left)

    pub point_known : p < length ms
    point_known = let t = taken_point in below parts forest links listing undos (length ms) h.each (p ∷ h.left) t.before t.trail p (inl refl)

    pub point_back : (by u : ℤ) → by ≡ multiplier_at ms r → u ≡ number_with_sign (not b) by → AreRefuted parts forest links undos (set ms p u)
    point_back by u is made =
        let t = taken_point in
        let other : (v : ℕ) → IsIn v h.left → multiplier_at (set ms p u) v ≡ multiplier_at ms v = λ v i. get_or-set_other ms p v u (pos 0) (apart v p h.left i t.leaf.fresh) in
        let unit : IsUnit u = rw (made, is) (turn_unit (not b) (multiplier_at ms r) (h.refutes.unit r)) in
        record {
          left = p ∷ h.left;
          now = t.before;
          trail = t.trail;
          refutes = point_contradicts graph h.left t.before h.now p r b (once_of parts forest links listing undos (p ∷ h.left) t.before t.trail).1 t.leaf t.less t.kept (multiplier_at ms) (multiplier_at (set ms p u)) h.refutes other
              (get_or-set_same ms p u (pos 0) point_known ∙ made ∙ ap (number_with_sign (not b)) (is ∙ sym (other r t.leaf.left)))
              (units_set ms p u point_known unit h.refutes.unit);
          each = length-set ms p u ∙ h.each;
        }

  module _ (r p : ℕ) (b lo hi : Bool) (ms : List ℤ) (h : AreRefuted parts forest links (with_row undos r p b lo hi) ms) where
    taken_row : RowTaken parts scale graph (vertices links) firsts (reverse undos) r p b lo hi h.left h.now
    taken_row = row_taken parts scale graph (vertices links) firsts (reverse undos) r p b lo hi h.left h.now (last_of parts forest links listing undos (undo.Row r p b lo hi) h.left h.now h.trail)

    pub row_known : r < length ms
    row_known = let t = taken_row in below parts forest links listing undos (length ms) h.each (r ∷ h.left) t.before t.trail r (inl refl)

    pub row_point_known : p < length ms
    row_point_known = let t = taken_row in below parts forest links listing undos (length ms) h.each (r ∷ h.left) t.before t.trail p (inr t.leaf.left)

    pub row_back : (by up ur : ℤ) → by ≡ multiplier_at ms p → IsShare b lo hi by up ur → AreRefuted parts forest links undos (set (set ms p up) r ur)
    row_back by up ur is share =
        let t = taken_row in
        let s : Stands b (t.before p) (t.before r) (h.now p) (multiplier_at ms p) up ur = stands b lo hi (t.before p) (t.before r) (h.now p) (multiplier_at ms p) up ur t.meet (h.refutes.unit p) (subst (λ (z : ℤ). IsShare b lo hi z up ur) is share) in
        let first : List ℤ = set ms p up in
        let u : ℕ → ℤ = multiplier_at (set (set ms p up) r ur) in
        let up_is : u p ≡ up = get_or-set_other (set ms p up) r p ur (pos 0) (apart p r h.left t.leaf.left t.leaf.fresh) ∙ get_or-set_same ms p up (pos 0) row_point_known in
        let ur_is : u r ≡ ur = get_or-set_same (set ms p up) r ur (pos 0) (omega (arith, row_known, length-set ms p up)) in
        record {
          left = r ∷ h.left;
          now = t.before;
          trail = t.trail;
          refutes = row_contradicts graph h.left t.before h.now r p b lo hi (once_of parts forest links listing undos (r ∷ h.left) t.before t.trail).1 t.leaf t.meet t.kept (multiplier_at ms) u h.refutes
              (λ v i m. get_or-set_other (set ms p up) r v ur (pos 0) (apart v r h.left i t.leaf.fresh) ∙ get_or-set_other ms p v up (pos 0) m)
              (rw (up_is, ur_is) s.balance) (λ c. rw (up_is, ur_is) (s.ends c))
              (units_set (set ms p up) r ur (omega (arith, row_known, length-set ms p up)) s.row (units_set ms p up row_point_known s.point h.refutes.unit));
          each = length-set (set ms p up) r ur ∙ length-set ms p up ∙ h.each;
        }

  module _ (w : ℕ) (e : E) (ms : List ℤ) (h : AreRefuted parts forest links (with_alone undos w e) ms) where
    taken_alone : AloneTaken parts scale graph (vertices links) firsts (reverse undos) w e h.left h.now
    taken_alone = alone_taken parts scale graph (vertices links) firsts (reverse undos) w e h.left h.now (last_of parts forest links listing undos (undo.Alone w e) h.left h.now h.trail)

    pub alone_known : w < length ms
    alone_known = let t = taken_alone in below parts forest links listing undos (length ms) h.each (w ∷ h.left) h.now t.trail w (inl refl)

    pub alone_back : AreRefuted parts forest links undos (set ms w (pos 0))
    alone_back =
        let t = taken_alone in
        record {
          left = w ∷ h.left;
          now = h.now;
          trail = t.trail;
          refutes = alone_contradicts graph h.left h.now w t.lone (multiplier_at ms) (multiplier_at (set ms w (pos 0))) h.refutes
              (λ v i. get_or-set_other ms w v (pos 0) (pos 0) (apart v w h.left i t.lone.fresh)) (get_or-set_same ms w (pos 0) (pos 0) alone_known)
              (units_set ms w (pos 0) alone_known (inl refl) h.refutes.unit);
          each = length-set ms w (pos 0) ∙ h.each;
        }

  -- the multipliers of a clash, and 0 for all others
  pub clash_first : (clash : Clash) → IsClash parts forest links undos clash → (ms : List ℤ) → AreZero ms → length ms ≡ length forest.ranges + length forest.rows → AreRefuted parts forest links undos (set (set ms clash.point clash.point_by) clash.row clash.row_by)
  clash_first clash h ms none each = record {
    left = h.left;
    now = h.now;
    trail = h.trail;
    refutes = subst (λ (u : ℕ → ℤ). Refutes graph h.left h.now u) (λ i v. same v i) h.refutes;
    each = length-set (set ms clash.point clash.point_by) clash.row clash.row_by ∙ length-set ms clash.point clash.point_by ∙ each;
  }
    where
      row_in : clash.row < length (set ms clash.point clash.point_by)
      row_in = omega (arith, h.row, each, length-set ms clash.point clash.point_by)

      point_in : clash.point < length ms
      point_in = omega (arith, h.point, each)

      same : (v : ℕ) → cond (eqb v clash.row) clash.row_by (cond (eqb v clash.point) clash.point_by (pos 0)) ≡ multiplier_at (set (set ms clash.point clash.point_by) clash.row clash.row_by) v
      same v = go (cases_eq v clash.row) (cases_eq v clash.point)
        where
          go : ((v ≡ clash.row) ⊎ (v ≡ clash.row → ⊥)) → ((v ≡ clash.point) ⊎ (v ≡ clash.point → ⊥)) → cond (eqb v clash.row) clash.row_by (cond (eqb v clash.point) clash.point_by (pos 0)) ≡ multiplier_at (set (set ms clash.point clash.point_by) clash.row clash.row_by) v
          go (inl e) f = rw (eq-eqb v clash.row e) (sym (ap (multiplier_at (set (set ms clash.point clash.point_by) clash.row clash.row_by)) e ∙ get_or-set_same (set ms clash.point clash.point_by) clash.row clash.row_by (pos 0) row_in))
          go (inr e) (inl f) = rw (ne_eqb v clash.row e, eq-eqb v clash.point f) (sym (get_or-set_other (set ms clash.point clash.point_by) clash.row v clash.row_by (pos 0) e ∙ ap (multiplier_at (set ms clash.point clash.point_by)) f ∙ get_or-set_same ms clash.point clash.point_by (pos 0) point_in))
          go (inr e) (inr f) = rw (ne_eqb v clash.row e, ne_eqb v clash.point f) (sym (get_or-set_other (set ms clash.point clash.point_by) clash.row v clash.row_by (pos 0) e ∙ get_or-set_other ms clash.point v clash.point_by (pos 0) f ∙ none v))
