-- What one turn of narrowing keeps.
use Rattle.std.proofs.Common.{◌≡◌, ℕ, zero, suc, ◌+◌, ◌<◌, ◌≤◌, Bool, true, false, List, [], ◌∷◌, ◌++◌, length, drop, get_or, set, ℤ, pos, negsuc, ◌+ℤ◌, ◌⊎◌, inl, inr, refl, sym, arith, ap, ◌∙◌, subst, drop-cons, add-one}
use Rattle.std.specs.Prelude.{reverse}
use Rattle.std.proofs.lemmas.Int.{ints}
use Rattle.std.proofs.lemmas.Bool.{cases_eq, false≢true}
use Rattle.std.proofs.lemmas.List.{reverse-append, get_or-set_same, get_or-set_other, length-set, length-map}
use Rattle.xc_forest.specs.Forests.{HasRoom, IsUnit, IsSignedSum, number_with_sign, ranges_of}
use Rattle.xc_lists.specs.Members.{IsIn, IsOnce}
use Rattle.xc_forest.specs.Steps.Links.{graph_of, link_at, vertices, IsLinkBy, IsLinkTo, AreLinks, IsListing}
use Rattle.xc_forest.specs.Steps.Scaled.{scale_of, first_spans, AreBoundsOver, AreSpansOver}
use Rattle.xc_forest.specs.Steps.Spans.{CanLessen, TellsLess}
use Rattle.xc_forest.specs.Steps.Trails.{IsTrail, took_point, took_row, took_alone, IsTrailOf, IsNarrowed, IsClash, IsLoneValue, point_clash, row_clash}
use Rattle.xc_forest.specs.Steps.Vertices.{◌≺◌, no_parts, Graph, Span, end, IsSum, IsNonempty, IsLeafPoint, IsLeafRow, IsAlone, IsMeet, row_without_point, span_with_sign, bound}
use Rattle.xc_forest.specs.declared.links.Link.{Link}
use Rattle.xc_forest.specs.declared.spans.Bounds.{Bounds}
use Rattle.xc_forest.specs.declared.types.Forest.{Forest}
use Rattle.xc_forest.specs.declared.undos.Clash.{Clash}
use Rattle.xc_forest.specs.declared.undos.Undo.{Undo}
use Rattle.xc_forest.specs.declared.undos.Undo.TheVariants as undo
use Rattle.xc_forest.proofs.FirstSpans.{same_parts_over}
use Rattle.xc_forest.proofs.Scales.{positive_scale, zero_parts_over}
use Rattle.xc_forest.proofs.LoneSteps.{alone_refuted, clash_refuted}
use Rattle.xc_forest.proofs.PairOrder.{lt_le, irreflexive}
use Rattle.xc_forest.proofs.Points.{put, put_same, put_other}
use Rattle.xc_forest.proofs.SignedSums.{signed_of}
use Rattle.xc_forest.proofs.Sums.{apart}
use Rattle.xc_forest.proofs.TrailSums.{end_sum, trail_once, trail_sum}
use Rattle.xc_forest.proofs.Weights.{row_true, row_false}
use Rattle.xc_frac.specs.declared.wide.Op.{Op}
use Rattle.xc_frac.specs.declared.wide.Wide.{Wide}
use Rattle.xc_model.specs.Parts.{Parts, SameParts, WholeParts, ArePartsOver, zero_parts}

pub lessened_nonempty : (b : Bool) (x y : Span) → IsNonempty x → IsNonempty y → IsNonempty (row_without_point b x y)
lessened_nonempty false x y h k = grind (arith, ints)
lessened_nonempty true x y h k = grind (arith, ints)

turned_nonempty : (b : Bool) (y : Span) → IsNonempty y → IsNonempty (span_with_sign b y)
turned_nonempty false y h = h
turned_nonempty true y h = grind (arith, ints)

pub put_nonempty : (vs : List ℕ) (r : ℕ) (m : Span) (a : ℕ → Span) → IsNonempty m → ((v : ℕ) → IsIn v vs → IsNonempty (a v)) → (v : ℕ) → IsIn v vs → IsNonempty (put r m a v)
put_nonempty vs r m a h o v i = go (cases_eq v r)
  where
    go : ((v ≡ r) ⊎ (v ≡ r → ⊥)) → IsNonempty (put r m a v)
    go (inl e) = rw (e, put_same r m a) h
    go (inr n) = rw (put_other r v m a n) (o v i)

pub reverse_more : {X : Type 0} (xs : List X) (x : X) → reverse (xs ++ x ∷ []) ≡ x ∷ reverse xs
reverse_more xs x = reverse-append xs (x ∷ [])

-- ---- multipliers for a meet that is empty
abbrev pub Clashes : Bool → Span → Span → ℤ → ℤ → Type 0
Clashes b x y up ur = (up +ℤ number_with_sign b ur ≡ pos 0) × IsUnit up × IsUnit ur × (no_parts ≺ record { real = bound false ur y +ℤ bound false up x; tiny = bound true ur y +ℤ bound true up x })

clash_below : (b : Bool) (x y : Span) → (span_with_sign b y).high ≺ x.low → Clashes b x y (pos 1) (row_clash false b)
clash_below false x y h = (omega (arith, ints), inr (inl refl), inr (inr refl), grind (arith, ints))
clash_below true x y h = (omega (arith, ints), inr (inl refl), inr (inl refl), grind (arith, ints))

clash_above : (b : Bool) (x y : Span) → x.high ≺ (span_with_sign b y).low → Clashes b x y (negsuc 0) (row_clash true b)
clash_above false x y h = (omega (arith, ints), inr (inr refl), inr (inl refl), grind (arith, ints))
clash_above true x y h = (omega (arith, ints), inr (inr refl), inr (inr refl), grind (arith, ints))

clashes : (lo hi b : Bool) (x y m : Span) → IsNonempty x → IsNonempty y → IsMeet lo hi x (span_with_sign b y) m → m.high ≺ m.low → Clashes b x y (point_clash lo) (row_clash lo b)
clashes false false b x y m h k w c = absurd (irreflexive _ (lt_le _ _ _ (rw (w.low, w.high) at c) h))
clashes true true b x y m h k w c = absurd (irreflexive _ (lt_le _ _ _ (rw (w.low, w.high) at c) (turned_nonempty b y k)))
clashes false true b x y m h k w c = clash_below b x y (rw (w.low, w.high) at c)
clashes true false b x y m h k w c = clash_above b x y (rw (w.low, w.high) at c)

units_put : (w : ℕ) (k : ℤ) (u : ℕ → ℤ) → IsUnit k → ((v : ℕ) → IsUnit (u v)) → (v : ℕ) → IsUnit (put w k u v)
units_put w k u h o v = go (cases_eq v w)
  where
    go : ((v ≡ w) ⊎ (v ≡ w → ⊥)) → IsUnit (put w k u v)
    go (inl e) = rw (e, put_same w k u) h
    go (inr m) = rw (put_other w v k u m) (o v)

are_links_from : (g : Graph) (ls : List Link) (k : ℕ) → AreLinks g ls → AreLinks g (drop k ls)
are_links_from g ls zero h = h
are_links_from g [] (suc k) h = tt
are_links_from g (l ∷ ls) (suc k) h = are_links_from g ls k h.1

-- what the link of a vertex without neighbours says
pub link_alone : (g : Graph) (vs : List ℕ) (link : Link) → link.is_alone ≡ true → IsLinkTo g vs link → IsAlone g vs link.vertex
link_alone g vs link e h = subst (λ (b : Bool). IsLinkBy b g vs link) e h

-- what the link of a point, or of a row, with one neighbour says
pub link_point : (n : ℕ) (rows : List (List (ℕ × Bool))) (vs : List ℕ) (link : Link) → link.is_alone ≡ false → link.vertex < n → IsLinkTo (graph_of n rows) vs link → IsLeafPoint (graph_of n rows) vs link.vertex link.next link.minus
unfolding graph_of
link_point n rows vs link e l h = go (subst (λ (b : Bool). IsLinkBy b (graph_of n rows) vs link) e h)
  where
    go : (IsLeafPoint (graph_of n rows) vs link.vertex link.next link.minus ⊎ IsLeafRow (graph_of n rows) vs link.vertex link.next link.minus) → IsLeafPoint (graph_of n rows) vs link.vertex link.next link.minus
    go (inl p) = p
    go (inr r) = absurd (false≢true (sym (row_false n link.vertex l) ∙ r.row))

pub link_row : (n : ℕ) (rows : List (List (ℕ × Bool))) (vs : List ℕ) (link : Link) → link.is_alone ≡ false → n ≤ link.vertex → IsLinkTo (graph_of n rows) vs link → IsLeafRow (graph_of n rows) vs link.vertex link.next link.minus
unfolding graph_of
link_row n rows vs link e l h = go (subst (λ (b : Bool). IsLinkBy b (graph_of n rows) vs link) e h)
  where
    go : (IsLeafPoint (graph_of n rows) vs link.vertex link.next link.minus ⊎ IsLeafRow (graph_of n rows) vs link.vertex link.next link.minus) → IsLeafRow (graph_of n rows) vs link.vertex link.next link.minus
    go (inl p) = absurd (false≢true (sym p.point ∙ row_true n link.vertex l))
    go (inr r) = r

module _ {E : Type 0} (parts : E → Parts) (forest : Forest E) (links : List Link) (listing : IsListing (graph_of (length forest.ranges) forest.rows) (length forest.ranges + length forest.rows) links) where
  abbrev scale : ℕ
  scale = scale_of (ranges_of parts forest.ranges)

  abbrev graph : Graph
  graph = graph_of (length forest.ranges) forest.rows

  abbrev firsts : ℕ → Span
  firsts = first_spans (ranges_of parts forest.ranges)

  -- a value that is a sum of the ends that are left is a signed sum
  pub signed_left : (us : List (Undo E)) (vs : List ℕ) (a : ℕ → Span) (e : E) (x : WholeParts) → IsTrail parts scale graph (vertices links) firsts us vs a → IsSum vs a x → ArePartsOver (parts e) x scale → IsSignedSum (ranges_of parts forest.ranges) (parts e)
  signed_left us vs a e x t s h =
      signed_of (ranges_of parts forest.ranges) (length forest.rows) (vertices links) listing.once
      (λ v i. subst (λ (n : ℕ). v < n + length forest.rows) (sym (length-map forest.ranges _)) (listing.known v i))
      (λ v l. listing.all v (subst (λ (n : ℕ). v < n + length forest.rows) (length-map forest.ranges _) l))
      (parts e) x (trail_sum parts scale graph (vertices links) firsts listing.once us vs a x t s) h

  module _ (us : List (Undo E)) (vs : List ℕ) (a : ℕ → Span) (t : IsTrail parts scale graph (vertices links) firsts us vs a) where
    -- an end that is left is a signed sum
    pub signed_end : (v : ℕ) (e : Bool) (x : E) → IsIn v vs → ArePartsOver (parts x) (end e (a v)) scale → IsSignedSum (ranges_of parts forest.ranges) (parts x)
    signed_end v e x i h = signed_left us vs a x (end e (a v)) t (end_sum vs a v e (trail_once parts scale graph (vertices links) firsts listing.once us vs a t) i) h

    pub can_lessen : (passes : Op → E → E → Wide → Type 0) → HasRoom parts passes (ranges_of parts forest.ranges) → (b : Bool) (r p : ℕ) (x y : Bounds E) → IsIn r vs → IsIn p vs → AreBoundsOver parts scale x (a r) → AreBoundsOver parts scale y (a p) → CanLessen passes b x y
    can_lessen passes room false r p x y i j h k = ((λ w. (room x.low y.high (signed_end r false x.low i h.low) (signed_end p true y.high j k.high) w).1), (λ w. (room x.high y.low (signed_end r true x.high i h.high) (signed_end p false y.low j k.low) w).1))
    can_lessen passes room true r p x y i j h k = ((λ w. (room x.low y.low (signed_end r false x.low i h.low) (signed_end p false y.low j k.low) w).0), (λ w. (room x.high y.high (signed_end r true x.high i h.high) (signed_end p true y.high j k.high) w).0))

  module _ (k : ℕ) (l : k < length links) (spans : List (Bounds E)) (undos : List (Undo E)) (h : IsNarrowed parts forest links k spans undos) (link : Link) (is : link ≡ link_at links k) where
    abbrev later : List ℕ
    later = vertices (drop (k + 1) links)

    split : drop k links ≡ link ∷ drop (k + 1) links
    split = drop-cons links k (record { vertex = 0; next = 0; minus = false; is_alone = false }) l ∙ ap (λ (x : Link). x ∷ drop (suc k) links) (sym is) ∙ ap (λ (j : ℕ). link ∷ drop j links) (sym (add-one k))

    pub linked : IsLinkTo (graph_of (length forest.ranges) forest.rows) (vertices (drop (k + 1) links)) link
    linked = (subst (λ (ls : List Link). AreLinks graph ls) split (are_links_from graph links k listing.each)).0

    pub trail_here : IsTrailOf parts forest links undos (link.vertex ∷ vertices (drop (k + 1) links)) h.now
    trail_here = subst (λ (ls : List Link). IsTrailOf parts forest links undos (vertices ls) h.now) split h.trail

    some_here : (v : ℕ) → IsIn v (link.vertex ∷ later) → IsNonempty (h.now v)
    some_here v i = h.some v (subst (λ (ls : List Link). IsIn v (vertices ls)) (sym split) i)

    known_left : (v : ℕ) (ls : List Link) (j : ℕ) → IsIn v (vertices (drop j ls)) → IsIn v (vertices ls)
    known_left v ls zero i = i
    known_left v [] (suc j) i = absurd i
    known_left v (x ∷ ls) (suc j) i = inr (known_left v ls j i)

    pub known_here : (v : ℕ) → IsIn v (link.vertex ∷ vertices (drop (k + 1) links)) → v < length spans
    known_here v i = let b : v < length forest.ranges + length forest.rows = listing.known v (known_left v links k (subst (λ (ls : List Link). IsIn v (vertices ls)) (sym split) i)) in omega (arith, h.each)

    pub hold_at : (v : ℕ) (e : Bounds E) → IsIn v (link.vertex ∷ vertices (drop (k + 1) links)) → e ≡ get_or spans v e → AreBoundsOver parts (scale_of (ranges_of parts forest.ranges)) e (h.now v)
    hold_at v e i q = subst (λ (x : Bounds E). AreBoundsOver parts scale x (h.now v)) (sym q) (h.hold v e (known_here v i))

    once_here : IsOnce (link.vertex ∷ later)
    once_here = trail_once parts scale graph (vertices links) firsts listing.once (reverse undos) _ _ trail_here

    -- a span is exchanged
    hold_put : (r : ℕ) (new : Bounds E) (m : Span) → AreBoundsOver parts scale new m → r < length spans → AreSpansOver parts scale (set spans r new) (put r m h.now)
    hold_put r new m o b v e c = go (cases_eq v r)
      where
        go : ((v ≡ r) ⊎ (v ≡ r → ⊥)) → AreBoundsOver parts scale (get_or (set spans r new) v e) (put r m h.now v)
        go (inl q) = rw (q, get_or-set_same spans r new e b, put_same r m h.now) o
        go (inr q) = rw (get_or-set_other spans r v new e q, put_other r v m h.now q) (h.hold v e (omega (arith, length-set spans r new)))

    trail_push : (u : Undo E) (vs : List ℕ) (a : ℕ → Span) → IsTrail parts scale graph (vertices links) firsts (u ∷ reverse undos) vs a → IsTrailOf parts forest links (undos ++ u ∷ []) vs a
    trail_push u vs a t = subst (λ (us : List (Undo E)). IsTrail parts scale graph (vertices links) firsts us vs a) (sym (reverse_more undos u)) t

    pub point_step : IsLeafPoint (graph_of (length forest.ranges) forest.rows) (vertices (drop (k + 1) links)) link.vertex link.next link.minus → (x y new : Bounds E) → AreBoundsOver parts (scale_of (ranges_of parts forest.ranges)) x (h.now link.next) → AreBoundsOver parts (scale_of (ranges_of parts forest.ranges)) y (h.now link.vertex)
        → AreBoundsOver parts (scale_of (ranges_of parts forest.ranges)) new (row_without_point link.minus (h.now link.next) (h.now link.vertex))
        → IsNarrowed parts forest links (k + 1) (set spans link.next new) (undos ++ undo.Point link.vertex link.next link.minus x y ∷ [])
    point_step leaf x y new ox oy on =
        let m = row_without_point link.minus (h.now link.next) (h.now link.vertex) in
        record {
          now = put link.next m h.now;
          trail = trail_push _ _ _ (took_point link.vertex link.next link.minus x y (reverse undos) later h.now (put link.next m h.now) trail_here leaf ox oy (put_same link.next m h.now) (λ v i o. put_other link.next v m h.now o) (some_here link.next (inr leaf.left)) (some_here link.vertex (inl refl)));
          hold = hold_put link.next new m on (known_here link.next (inr leaf.left));
          some = put_nonempty later link.next m h.now (lessened_nonempty link.minus (h.now link.next) (h.now link.vertex) (some_here link.next (inr leaf.left)) (some_here link.vertex (inl refl))) (λ v i. some_here v (inr i));
          each = length-set spans link.next new ∙ h.each;
        }

    pub row_step : IsLeafRow (graph_of (length forest.ranges) forest.rows) (vertices (drop (k + 1) links)) link.vertex link.next link.minus → (lo hi : Bool) (new : Bounds E) (m : Span) → AreBoundsOver parts (scale_of (ranges_of parts forest.ranges)) new m
        → IsMeet lo hi (h.now link.next) (span_with_sign link.minus (h.now link.vertex)) m → IsNonempty m
        → IsNarrowed parts forest links (k + 1) (set spans link.next new) (undos ++ undo.Row link.vertex link.next link.minus lo hi ∷ [])
    row_step leaf lo hi new m on w some = record {
      now = put link.next m h.now;
      trail = trail_push _ _ _ (took_row link.vertex link.next link.minus lo hi (reverse undos) later h.now (put link.next m h.now) trail_here leaf (rw (put_same link.next m h.now) w) (λ v i o. put_other link.next v m h.now o));
      hold = hold_put link.next new m on (known_here link.next (inr leaf.left));
      some = put_nonempty later link.next m h.now some (λ v i. some_here v (inr i));
      each = length-set spans link.next new ∙ h.each;
    }

    pub alone_step : IsAlone (graph_of (length forest.ranges) forest.rows) (vertices (drop (k + 1) links)) link.vertex → (e : E) (x : WholeParts) → ArePartsOver (parts e) x (scale_of (ranges_of parts forest.ranges)) → IsLoneValue ((graph_of (length forest.ranges) forest.rows).is_row link.vertex) (h.now link.vertex) x
        → IsNarrowed parts forest links (k + 1) spans (undos ++ undo.Alone link.vertex e ∷ [])
    alone_step lone e x o w = record {
      now = h.now;
      trail = trail_push _ _ _ (took_alone link.vertex e x (reverse undos) later h.now trail_here lone o w (some_here link.vertex (inl refl)));
      hold = h.hold;
      some = λ v i. some_here v (inr i);
      each = h.each;
    }

    pub row_clashes : IsLeafRow (graph_of (length forest.ranges) forest.rows) (vertices (drop (k + 1) links)) link.vertex link.next link.minus → (lo hi : Bool) (m : Span) → IsMeet lo hi (h.now link.next) (span_with_sign link.minus (h.now link.vertex)) m → m.high ≺ m.low
        → (clash : Clash) → clash.row ≡ link.vertex → clash.point ≡ link.next → clash.row_by ≡ row_clash lo link.minus → clash.point_by ≡ point_clash lo → IsClash parts forest links undos clash
    row_clashes leaf lo hi m w c clash r p rb pb =
        let t = clashes lo hi link.minus (h.now link.next) (h.now link.vertex) m (some_here link.next (inr leaf.left)) (some_here link.vertex (inl refl)) w c in
        let zero_all : ℕ → ℤ = λ v. pos 0 in
        let u : ℕ → ℤ = put link.vertex (row_clash lo link.minus) (put link.next (point_clash lo) zero_all) in
        let up : u link.next ≡ point_clash lo = put_other link.vertex link.next (row_clash lo link.minus) (put link.next (point_clash lo) zero_all) (apart link.next link.vertex later leaf.left leaf.fresh) ∙ put_same link.next (point_clash lo) zero_all in
        let ur : u link.vertex ≡ row_clash lo link.minus = put_same link.vertex (row_clash lo link.minus) (put link.next (point_clash lo) zero_all) in
        record {
          left = link.vertex ∷ later;
          now = h.now;
          trail = trail_here;
          refutes = rw (r, p, rb, pb) (clash_refuted graph later h.now link.vertex link.next link.minus once_here.1 leaf u
              (λ v i o. put_other link.vertex v (row_clash lo link.minus) (put link.next (point_clash lo) zero_all) (apart v link.vertex later i leaf.fresh) ∙ put_other link.next v (point_clash lo) zero_all o)
              (rw (up, ur) t.0) (rw (up, ur) t.3)
              (units_put link.vertex (row_clash lo link.minus) (put link.next (point_clash lo) zero_all) t.2 (units_put link.next (point_clash lo) zero_all t.1 (λ v. inl refl))));
          row = rw r (omega (arith, h.each, known_here link.vertex (inl refl)));
          point = rw p (omega (arith, h.each, known_here link.next (inr leaf.left)));
          row_unit = rw rb t.2;
          point_unit = rw pb t.1;
        }

    pub alone_clashes : IsAlone (graph_of (length forest.ranges) forest.rows) (vertices (drop (k + 1) links)) link.vertex → (graph_of (length forest.ranges) forest.rows).is_row link.vertex ≡ true → (by : ℤ) → IsUnit by → no_parts ≺ record { real = bound false by (h.now link.vertex); tiny = bound true by (h.now link.vertex) }
        → (clash : Clash) → clash ≡ record { row = link.vertex; row_by = by; point = link.vertex; point_by = by } → IsClash parts forest links undos clash
    alone_clashes lone row by unit above clash e =
        let zero_all : ℕ → ℤ = λ v. pos 0 in
        let u : ℕ → ℤ = put link.vertex by (put link.vertex by zero_all) in
        let ur : u link.vertex ≡ by = put_same link.vertex by (put link.vertex by zero_all) in
        rw e (record {
          left = link.vertex ∷ later;
          now = h.now;
          trail = trail_here;
          refutes = alone_refuted graph later h.now link.vertex lone u
              (λ v i. put_other link.vertex v by (put link.vertex by zero_all) (apart v link.vertex later i lone.fresh) ∙ put_other link.vertex v by zero_all (apart v link.vertex later i lone.fresh))
              row (rw ur above) (units_put link.vertex by (put link.vertex by zero_all) unit (units_put link.vertex by zero_all unit (λ v. inl refl)));
          row = omega (arith, h.each, known_here link.vertex (inl refl));
          point = omega (arith, h.each, known_here link.vertex (inl refl));
          row_unit = unit;
          point_unit = unit;
        })

    -- a vertex without neighbours, as a point and as a row
    module _ (lone : IsAlone (graph_of (length forest.ranges) forest.rows) (vertices (drop (k + 1) links)) link.vertex) (e : Bounds E) (o : AreBoundsOver parts (scale_of (ranges_of parts forest.ranges)) e (h.now link.vertex)) where
      pub alone_point : link.vertex < length forest.ranges → IsNarrowed parts forest links (k + 1) spans (undos ++ undo.Alone link.vertex e.low ∷ [])
      unfolding graph_of
      alone_point b = alone_step lone e.low (h.now link.vertex).low o.low (rw (row_false (length forest.ranges) link.vertex b) refl)

      module _ (b : length forest.ranges ≤ link.vertex) where
        pub alone_low : TellsLess true no_parts (h.now link.vertex).low → IsClash parts forest links undos (record { row = link.vertex; row_by = pos 1; point = link.vertex; point_by = pos 1 })
        unfolding graph_of
        alone_low t = alone_clashes lone (row_true (length forest.ranges) link.vertex b) (pos 1) (inr (inl refl)) t _ refl

        pub alone_high : TellsLess true (h.now link.vertex).high no_parts → IsClash parts forest links undos (record { row = link.vertex; row_by = negsuc 0; point = link.vertex; point_by = negsuc 0 })
        unfolding graph_of
        alone_high t = alone_clashes lone (row_true (length forest.ranges) link.vertex b) (negsuc 0) (inr (inr refl)) (grind (arith, ints)) _ refl

        pub alone_row : (zero_value : E) → SameParts (parts zero_value) zero_parts → TellsLess false no_parts (h.now link.vertex).low → TellsLess false (h.now link.vertex).high no_parts → IsNarrowed parts forest links (k + 1) spans (undos ++ undo.Alone link.vertex zero_value ∷ [])
        unfolding graph_of
        alone_row z same t u = alone_step lone z no_parts (same_parts_over (parts z) zero_parts no_parts scale same (zero_parts_over scale (positive_scale (ranges_of parts forest.ranges)))) (rw (row_true (length forest.ranges) link.vertex b) ((refl, record { low = t; high = u })))

pub zero_over : (ranges : List (Rattle.xc_interval.specs.declared.interval.Interval.Interval Parts)) (x : Parts) → SameParts x zero_parts → ArePartsOver x no_parts (scale_of ranges)
zero_over ranges x same = same_parts_over x zero_parts no_parts (scale_of ranges) same (zero_parts_over (scale_of ranges) (positive_scale ranges))
