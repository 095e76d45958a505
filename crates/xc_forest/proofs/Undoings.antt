-- The last step of a trail, undone.
use Rattle.std.proofs.Common.{◌≡◌, ◌≢◌, ℕ, ◌+◌, ◌<◌, Bool, true, false, List, [], ◌∷◌, ◌++◌, length, get_or, set, pos, ◌⊎◌, inl, inr, refl, sym, arith, ap, ◌∙◌, subst}
use Rattle.std.specs.Prelude.{reverse}
use Rattle.std.proofs.lemmas.Bool.{cases_eq, false≢true}
use Rattle.std.proofs.lemmas.List.{get_or-set_same, get_or-set_other, length-set, get_or_append_left, get_or_push, length_push}
use Rattle.xc_forest.specs.Forests.{HasRoom, IsSignedSum, number_with_sign, ranges_of}
use Rattle.xc_lists.specs.Members.{IsIn, IsOnce}
use Rattle.xc_forest.specs.Steps.Links.{graph_of, vertices, IsListing}
use Rattle.xc_forest.specs.Steps.Scaled.{scale_of, first_spans, AreBoundsOver, AreValuesOver}
use Rattle.xc_forest.specs.Steps.Splits.{AreSplitOver, CanSplit, pair_with_sign}
use Rattle.xc_forest.specs.Steps.Trails.{IsTrail, start, took_point, took_row, took_alone, IsTrailOf, IsLoneValue, AreSettled, with_point, with_row, with_alone}
use Rattle.xc_forest.specs.Steps.Vertices.{no_parts, Graph, Span, part, IsWithin, IsNonempty, IsLeafPoint, IsLeafRow, IsAlone, IsMeet, row_without_point, span_with_sign, AreVertexValues}
use Rattle.xc_forest.specs.declared.links.Link.{Link}
use Rattle.xc_forest.specs.declared.spans.Bounds.{Bounds}
use Rattle.xc_forest.specs.declared.types.Forest.{Forest}
use Rattle.xc_forest.specs.declared.undos.Undo.{Undo}
use Rattle.xc_forest.specs.declared.undos.Undo.TheVariants as undo
use Rattle.xc_forest.proofs.LoneSteps.{alone_settles}
use Rattle.xc_forest.proofs.Narrowings.{reverse_more, signed_left, signed_end}
use Rattle.xc_forest.proofs.PairOrder.{le_refl}
use Rattle.xc_forest.proofs.Points.{put, put_same, put_other}
use Rattle.xc_forest.proofs.PointSteps.{point_settles}
use Rattle.xc_forest.proofs.RowSteps.{row_settles, no_ends}
use Rattle.xc_forest.proofs.Sums.{apart, sum_same}
use Rattle.xc_forest.proofs.TrailSums.{trail_once, signed_sum}
use Rattle.xc_frac.specs.declared.wide.Op.{Op}
use Rattle.xc_frac.specs.declared.wide.Wide.{Wide}
use Rattle.xc_model.specs.Parts.{Parts, WholeParts, ArePartsOver}

-- ---- what a last step says
module _ {E : Type 0} (parts : E → Parts) (d : ℕ) (g : Graph) (ws : List ℕ) (o : ℕ → Span) where
  pub record PointTaken (us : List (Undo E)) (p r : ℕ) (b : Bool) (x y : Bounds E) (vs : List ℕ) (n : ℕ → Span) : Type 0 where
    pub before : ℕ → Span
    pub trail : IsTrail parts d g ws o us (p ∷ vs) before
    pub leaf : IsLeafPoint g vs p r b
    pub of_row : AreBoundsOver parts d x (before r)
    pub of_point : AreBoundsOver parts d y (before p)
    pub less : n r ≡ row_without_point b (before r) (before p)
    pub kept : (v : ℕ) → IsIn v vs → v ≢ r → n v ≡ before v
    pub some_row : IsNonempty (before r)
    pub some_point : IsNonempty (before p)

  pub point_taken : (us : List (Undo E)) (p r : ℕ) (b : Bool) (x y : Bounds E) (vs : List ℕ) (n : ℕ → Span) → IsTrail parts d g ws o (undo.Point p r b x y ∷ us) vs n → PointTaken us p r b x y vs n
  point_taken us p r b x y vs n (took_point _ _ _ _ _ _ _ a _ t h k l e c s q) = record { before = a; trail = t; leaf = h; of_row = k; of_point = l; less = e; kept = c; some_row = s; some_point = q }

  pub record RowTaken (us : List (Undo E)) (r p : ℕ) (b lo hi : Bool) (vs : List ℕ) (n : ℕ → Span) : Type 0 where
    pub before : ℕ → Span
    pub trail : IsTrail parts d g ws o us (r ∷ vs) before
    pub leaf : IsLeafRow g vs r p b
    pub meet : IsMeet lo hi (before p) (span_with_sign b (before r)) (n p)
    pub kept : (v : ℕ) → IsIn v vs → v ≢ p → n v ≡ before v

  pub row_taken : (us : List (Undo E)) (r p : ℕ) (b lo hi : Bool) (vs : List ℕ) (n : ℕ → Span) → IsTrail parts d g ws o (undo.Row r p b lo hi ∷ us) vs n → RowTaken us r p b lo hi vs n
  row_taken us r p b lo hi vs n (took_row _ _ _ _ _ _ _ a _ t h m k) = record { before = a; trail = t; leaf = h; meet = m; kept = k }

  pub record AloneTaken (us : List (Undo E)) (w : ℕ) (e : E) (vs : List ℕ) (n : ℕ → Span) : Type 0 where
    pub trail : IsTrail parts d g ws o us (w ∷ vs) n
    pub lone : IsAlone g vs w
    pub value : WholeParts
    pub over : ArePartsOver (parts e) value d
    pub takes : IsLoneValue (g.is_row w) (n w) value
    pub some : IsNonempty (n w)

  pub alone_taken : (us : List (Undo E)) (w : ℕ) (e : E) (vs : List ℕ) (n : ℕ → Span) → IsTrail parts d g ws o (undo.Alone w e ∷ us) vs n → AloneTaken us w e vs n
  alone_taken us w e vs n (took_alone _ _ x _ _ _ t h k l s) = record { trail = t; lone = h; value = x; over = k; takes = l; some = s }

  -- what is left is of the whole
  pub trail_known : (us : List (Undo E)) (vs : List ℕ) (a : ℕ → Span) → IsTrail parts d g ws o us vs a → (v : ℕ) → IsIn v vs → IsIn v ws
  trail_known us vs a start v i = i
  trail_known us vs a (took_point p r b x y us' vs' m n t h _ _ l k _ _) v i = trail_known us' (p ∷ vs') m t v (inr i)
  trail_known us vs a (took_row r p b lo hi us' vs' m n t h l k) v i = trail_known us' (r ∷ vs') m t v (inr i)
  trail_known us vs a (took_alone w e x us' vs' m t h _ _ _) v i = trail_known us' (w ∷ vs') m t v (inr i)

-- ---- values
module _ {E : Type 0} (parts : E → Parts) (d : ℕ) where
  -- a value is exchanged
  pub values_put : (values : List E) (z : ℕ → WholeParts) (v : ℕ) (e : E) (x : WholeParts) → AreValuesOver parts d values z → v < length values → ArePartsOver (parts e) x d → AreValuesOver parts d (set values v e) (put v x z)
  values_put values z v e x h l o w f k = go (cases_eq w v)
    where
      go : ((w ≡ v) ⊎ (w ≡ v → ⊥)) → ArePartsOver (parts (get_or (set values v e) w f)) (put v x z w) d
      go (inl q) = rw (q, get_or-set_same values v e f l, put_same v x z) o
      go (inr q) = rw (get_or-set_other values v w e f q, put_other v w x z q) (h w f (omega (arith, length-set values v e)))

  -- one more value
  pub values_push : (values : List E) (e : E) (z : ℕ → WholeParts) → AreValuesOver parts d values z → ArePartsOver (parts e) (z (length values)) d → AreValuesOver parts d (values ++ e ∷ []) z
  values_push values e z h o v f l = go (cases_eq v (length values))
    where
      go : ((v ≡ length values) ⊎ (v ≡ length values → ⊥)) → ArePartsOver (parts (get_or (values ++ e ∷ []) v f)) (z v) d
      go (inl q) = rw (q, get_or_push values e f (length values) refl) o
      go (inr q) = let b : v < length values = omega (arith, length_push values e) in rw (get_or_append_left values (e ∷ []) f v b) (h v f b)

module _ {E : Type 0} (parts : E → Parts) (forest : Forest E) (links : List Link) (listing : IsListing (graph_of (length forest.ranges) forest.rows) (length forest.ranges + length forest.rows) links) (undos : List (Undo E)) where
  abbrev scale : ℕ
  scale = scale_of (ranges_of parts forest.ranges)

  abbrev graph : Graph
  graph = graph_of (length forest.ranges) forest.rows

  abbrev firsts : ℕ → Span
  firsts = first_spans (ranges_of parts forest.ranges)

  abbrev us : List (Undo E)
  us = reverse undos

  pub last_of : (u : Undo E) (vs : List ℕ) (a : ℕ → Span) → IsTrailOf parts forest links (undos ++ u ∷ []) vs a → IsTrail parts scale graph (vertices links) firsts (u ∷ reverse undos) vs a
  last_of u vs a t = subst (λ (xs : List (Undo E)). IsTrail parts scale graph (vertices links) firsts xs vs a) (reverse_more undos u) t

  pub once_of : (vs : List ℕ) (a : ℕ → Span) → IsTrail parts scale graph (vertices links) firsts (reverse undos) vs a → IsOnce vs
  once_of vs a t = trail_once parts scale graph (vertices links) firsts listing.once (reverse undos) vs a t

  pub below : (count : ℕ) → count ≡ length forest.ranges + length forest.rows → (vs : List ℕ) (a : ℕ → Span) → IsTrail parts scale graph (vertices links) firsts (reverse undos) vs a → (v : ℕ) → IsIn v vs → v < count
  below count e vs a t v i = let b : v < length forest.ranges + length forest.rows = listing.known v (trail_known parts scale graph (vertices links) firsts (reverse undos) vs a t v i) in omega (arith, e)

  -- ---- a point
  module _ (p r : ℕ) (b : Bool) (x y : Bounds E) where
    module _ (values : List E) (h : AreSettled parts forest links (with_point undos p r b x y) values) where
      taken_point : PointTaken parts scale graph (vertices links) firsts (reverse undos) p r b x y h.left h.now
      taken_point = point_taken parts scale graph (vertices links) firsts (reverse undos) p r b x y h.left h.now (last_of (undo.Point p r b x y) h.left h.now h.trail)

      pub point_row_known : r < length values
      point_row_known = let t = taken_point in below (length values) h.each (p ∷ h.left) t.before t.trail r (inr t.leaf.left)

      pub point_known : p < length values
      point_known = let t = taken_point in below (length values) h.each (p ∷ h.left) t.before t.trail p (inl refl)

      module _ (e : E) (is : e ≡ get_or values r e) where
        rest_over : ArePartsOver (parts e) (h.value r) scale
        rest_over = subst (λ (f : E). ArePartsOver (parts f) (h.value r) scale) (sym is) (h.hold r e point_row_known)

        rest_within : IsWithin (row_without_point b (taken_point.before r) (taken_point.before p)) (h.value r)
        rest_within = let t = taken_point in subst (λ (a : Span). IsWithin a (h.value r)) t.less (h.settles.within r t.leaf.left)

        pub can_split : (passes : Op → E → E → Wide → Type 0) → HasRoom parts passes (ranges_of parts forest.ranges) → CanSplit passes b x y e
        can_split passes room =
            let t = taken_point in
            let rest : IsSignedSum (ranges_of parts forest.ranges) (parts e) = signed_left parts forest links listing (undo.Point p r b x y ∷ reverse undos) h.left h.now e (h.value r) (last_of (undo.Point p r b x y) h.left h.now h.trail) (signed_sum h.left h.now r (h.value r) (once_of (p ∷ h.left) t.before t.trail).1 t.leaf.left (h.settles.signed r t.leaf.left)) rest_over in
            let end_is = signed_end parts forest links listing (reverse undos) (p ∷ h.left) t.before t.trail in
            go b (end_is p false y.low (inl refl) t.of_point.low) (end_is r false x.low (inr t.leaf.left) t.of_row.low) (end_is r true x.high (inr t.leaf.left) t.of_row.high) rest
          where
            go : (c : Bool) → IsSignedSum (ranges_of parts forest.ranges) (parts y.low) → IsSignedSum (ranges_of parts forest.ranges) (parts x.low) → IsSignedSum (ranges_of parts forest.ranges) (parts x.high) → IsSignedSum (ranges_of parts forest.ranges) (parts e) → CanSplit passes c x y e
            go false low row_low row_high rest = ((λ w. (room e y.low rest low w).0), (λ w. (room x.low e row_low rest w).1))
            go true low row_low row_high rest = ((λ w. (room e y.low rest low w).1), (λ w. (room e x.high rest row_high w).1))

        pub point_back : (row_value point_value : E) → ((u v : Span) (t : WholeParts) (k : ℕ) → AreBoundsOver parts k x u → AreBoundsOver parts k y v → ArePartsOver (parts e) t k → IsNonempty u → IsNonempty v → IsWithin (row_without_point b u v) t → AreSplitOver parts k b u v t row_value point_value)
            → AreSettled parts forest links undos (set (set values r row_value) p point_value)
        point_back row_value point_value made =
            let t = taken_point in
            let s = made (t.before r) (t.before p) (h.value r) scale t.of_row t.of_point rest_over t.some_row t.some_point rest_within in
            let z : ℕ → WholeParts = put p s.point (put r s.row h.value) in
            let zp : z p ≡ s.point = put_same p s.point (put r s.row h.value) in
            let zr : z r ≡ s.row = put_other p r s.point (put r s.row h.value) (apart r p h.left t.leaf.left t.leaf.fresh) ∙ put_same r s.row h.value in
            record {
              left = p ∷ h.left;
              now = t.before;
              value = z;
              trail = t.trail;
              settles = point_settles graph h.left t.before h.now p r b (once_of (p ∷ h.left) t.before t.trail).1 t.leaf t.less t.kept h.value z h.settles (λ v i m. put_other p v s.point (put r s.row h.value) (apart v p h.left i t.leaf.fresh) ∙ put_other r v s.row h.value m) (rw (zp, zr) s.split);
              hold = values_put parts scale (set values r row_value) (put r s.row h.value) p point_value s.point (values_put parts scale values h.value r row_value s.row h.hold point_row_known s.row_over) (omega (arith, point_known, length-set values r row_value)) s.point_over;
              each = length-set (set values r row_value) p point_value ∙ length-set values r row_value ∙ h.each;
            }

  -- ---- a row
  module _ (r p : ℕ) (b lo hi : Bool) (values : List E) (h : AreSettled parts forest links (with_row undos r p b lo hi) values) where
    taken_row : RowTaken parts scale graph (vertices links) firsts (reverse undos) r p b lo hi h.left h.now
    taken_row = row_taken parts scale graph (vertices links) firsts (reverse undos) r p b lo hi h.left h.now (last_of (undo.Row r p b lo hi) h.left h.now h.trail)

    pub row_known : r < length values
    row_known = let t = taken_row in below (length values) h.each (r ∷ h.left) t.before t.trail r (inl refl)

    pub row_point_known : p < length values
    row_point_known = let t = taken_row in below (length values) h.each (r ∷ h.left) t.before t.trail p (inr t.leaf.left)

    pub row_back : (e f : E) → e ≡ get_or values p e → ((a : WholeParts) (k : ℕ) → ArePartsOver (parts e) a k → ArePartsOver (parts f) (pair_with_sign b a) k) → AreSettled parts forest links undos (set values r f)
    row_back e f is made =
        let t = taken_row in
        let over : ArePartsOver (parts e) (h.value p) scale = subst (λ (x : E). ArePartsOver (parts x) (h.value p) scale) (sym is) (h.hold p e row_point_known) in
        let x : WholeParts = pair_with_sign b (h.value p) in
        let z : ℕ → WholeParts = put r x h.value in
        let zp : z p ≡ h.value p = put_other r p x h.value (apart p r h.left t.leaf.left t.leaf.fresh) in
        let zr : z r ≡ x = put_same r x h.value in
        record {
          left = r ∷ h.left;
          now = t.before;
          value = z;
          trail = t.trail;
          settles = row_settles graph h.left t.before h.now r p b lo hi (once_of (r ∷ h.left) t.before t.trail).1 t.leaf t.meet t.kept h.value z h.settles (λ v i. put_other r v x h.value (apart v r h.left i t.leaf.fresh)) (λ c. rw (zr, zp) (each_part c));
          hold = values_put parts scale values h.value r f x h.hold row_known (made (h.value p) scale over);
          each = length-set values r f ∙ h.each;
        }
      where
        each_part : (c : Bool) → part c (pair_with_sign b (h.value p)) ≡ number_with_sign b (part c (h.value p))
        each_part false = refl
        each_part true = refl

  -- ---- a vertex without neighbours
  module _ (w : ℕ) (e : E) (values : List E) (h : AreSettled parts forest links (with_alone undos w e) values) where
    taken_alone : AloneTaken parts scale graph (vertices links) firsts (reverse undos) w e h.left h.now
    taken_alone = alone_taken parts scale graph (vertices links) firsts (reverse undos) w e h.left h.now (last_of (undo.Alone w e) h.left h.now h.trail)

    pub alone_known : w < length values
    alone_known = let t = taken_alone in below (length values) h.each (w ∷ h.left) h.now t.trail w (inl refl)

    pub alone_back : AreSettled parts forest links undos (set values w e)
    alone_back =
        let t = taken_alone in
        let z : ℕ → WholeParts = put w t.value h.value in
        let zw : z w ≡ t.value = put_same w t.value h.value in
        record {
          left = w ∷ h.left;
          now = h.now;
          value = z;
          trail = t.trail;
          settles = go (graph.is_row w) refl t.takes;
          hold = values_put parts scale values h.value w e t.value h.hold alone_known t.over;
          each = length-set values w e ∙ h.each;
        }
      where
        x : WholeParts
        x = taken_alone.value

        settled : AreVertexValues graph h.left h.now (put w x h.value)
        settled = record {
          within = λ v i. rw (same v i) (h.settles.within v i);
          meets = λ q i r c. ap (part c) (same q i) ∙ (h.settles.meets q i r c ∙ sum_same h.left _ _ (λ v j. rw (same v j)));
          signed = λ v i. rw (same v i) (h.settles.signed v i);
        }
          where
            same : (v : ℕ) → IsIn v h.left → put w x h.value v ≡ h.value v
            same v i = put_other w v x h.value (apart v w h.left i taken_alone.lone.fresh)

        zero_part : (c : Bool) → part c no_parts ≡ pos 0
        zero_part false = refl
        zero_part true = refl

        go : (s : Bool) → graph.is_row w ≡ s → IsLoneValue s (h.now w) x → AreVertexValues graph (w ∷ h.left) h.now (put w x h.value)
        go false q k = alone_settles graph h.left h.now w taken_alone.lone (put w x h.value) settled (rw (put_same w x h.value, k) (record { low = le_refl (h.now w).low; high = taken_alone.some })) (inl (false, put_same w x h.value ∙ k)) (λ r. absurd (false≢true (sym q ∙ r)))
        go true q k = alone_settles graph h.left h.now w taken_alone.lone (put w x h.value) settled (rw (put_same w x h.value, k.0) (rw k.0 at k.1)) (rw (put_same w x h.value, k.0) (inr (no_ends (w ∷ h.left) h.now w no_parts zero_part))) (λ r c. rw (put_same w x h.value, k.0) (zero_part c))
