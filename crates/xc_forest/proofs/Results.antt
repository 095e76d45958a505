-- What is undone to the end solves the forest, or contradicts it.
use Rattle.std.proofs.Common.{◌≡◌, ℕ, zero, suc, ◌+◌, ◌<◌, ◌≤◌, Bool, true, false, List, [], ◌∷◌, length, map, take, drop, ℤ, pos, negsuc, ◌+ℤ◌, ◌*ℤ◌, ◌<ℤ◌, ◌⊎◌, inl, inr, refl, sym, arith, ap, ◌∙◌, subst}
use Rattle.std.proofs.Math.Seq.{drop-length}
use Rattle.std.proofs.lemmas.Int.{ints}
use Rattle.std.proofs.lemmas.List.{length-map, length-take-le, length-drop, get_or-map, get_or-take, get_or-drop, get_or_past}
use Rattle.xc_model.proofs.Integers.{lt_or_le, mul_comm, scale_lt}
use Rattle.xc_model.proofs.Pairs.{same_pairs}
use Rattle.xc_forest.specs.Forests.{AreRows, AreRanges, Solves, Contradicts, IsUnit, range_at, ranges_of, row_at, row_total, row_sum, parts_with_sign, number_with_sign, unit_at, value_at, sum_below, named_end, multiplier_at, points_of}
use Rattle.xc_lists.specs.Members.{IsIn}
use Rattle.xc_forest.specs.Steps.Links.{graph_of, weigh_of, vertices, IsListing}
use Rattle.xc_forest.specs.Steps.Scaled.{scale_of, first_spans, AreSpansOver, AreValuesOver}
use Rattle.xc_forest.specs.Steps.Trails.{IsTrail, start, IsTrailOf, IsNarrowed, AreAllTaken, AreSettled, AreRefuted}
use Rattle.xc_forest.specs.Steps.Vertices.{◌≺◌, ◌≼◌, no_parts, no_span, Graph, Span, part, IsWithin, IsNonempty, AreVertexValues, Refutes, bound, sum_over}
use Rattle.xc_forest.specs.declared.links.Link.{Link}
use Rattle.xc_forest.specs.declared.spans.Bounds.{Bounds}
use Rattle.xc_forest.specs.declared.types.Forest.{Forest}
use Rattle.xc_forest.specs.declared.undos.Undo.{Undo}
use Rattle.xc_forest.proofs.ListedSums.{same_below, row_by_weights, points_listed, rows_listed, row_weight}
use Rattle.xc_forest.proofs.PairOrder.{le_refl, le_or_gt}
use Rattle.xc_forest.proofs.PointSteps.{no_weight}
use Rattle.xc_forest.proofs.Scales.{positive_scale, first_low, first_high, first_none, zero_parts_over, sum_parts_over, neg_parts_over, same_over, parts_below_over}
use Rattle.xc_forest.proofs.SignedSums.{signed_of}
use Rattle.xc_forest.proofs.Sums.{sum_same}
use Rattle.xc_forest.proofs.TrailSums.{signed_sum}
use Rattle.xc_forest.proofs.Weights.{row_true, row_false}
use Rattle.xc_interval.specs.Ends.{value_of, is_open}
use Rattle.xc_interval.specs.Intervals.{IsAtMost, IsPast, IsBefore}
use Rattle.xc_interval.specs.declared.ends.End.{End}
use Rattle.xc_interval.specs.declared.ends.End.TheVariants.{Closed, Open}
use Rattle.xc_interval.specs.declared.interval.Interval.{Interval}
use Rattle.xc_model.specs.Fraction.{Fraction, SameNumber, IsBelow, IsNumberOver}
use Rattle.xc_model.specs.Parts.{Parts, SameParts, IsLess, WholeParts, ArePartsOver, zero_parts}
use Rattle.xc_model.proofs.Numbers.{same-sym, same-trans, below-same}
use Rattle.xc_model.proofs.NumbersOver.{number_same}
use Rattle.xc_model.proofs.Over.{ratio}

-- ---- the order over one denominator
below_from : (x y : Fraction) (n m : ℤ) (d : ℕ) → IsNumberOver x n d → IsNumberOver y m d → n <ℤ m → IsBelow x y
below_from x y n m d h k l =
    let p : pos 0 <ℤ pos d = omega (arith, ints, h.positive) in
    let s : (pos d *ℤ n) <ℤ (pos d *ℤ m) = scale_lt (pos d) n m p l in
    below-same (ratio n d h.positive) (ratio m d h.positive) x y (same-sym x (ratio n d h.positive) (number_same x n d h)) (same-sym y (ratio m d h.positive) (record { cross = k.cross }))
    (record { cross = omega (arith, ints, s, mul_comm (pos d) n, mul_comm (pos d) m) })

same_from : (x y : Fraction) (n m : ℤ) (d : ℕ) → IsNumberOver x n d → IsNumberOver y m d → n ≡ m → SameNumber x y
same_from x y n m d h k e =
    let k' : IsNumberOver y n d = rw e k in
    same-trans x (ratio n d h.positive) y (number_same x n d h) (same-sym y (ratio n d h.positive) (record { cross = k'.cross }))

pub less_from : (x y : Parts) (a b : WholeParts) (d : ℕ) → ArePartsOver x a d → ArePartsOver y b d → a ≺ b → IsLess x y
less_from x y a b d h k (inl l) = inl (below_from x.real y.real a.real b.real d h.real k.real l)
less_from x y a b d h k (inr l) = inr (same_from x.real y.real a.real b.real d h.real k.real l.0, below_from x.tiny y.tiny a.tiny b.tiny d h.tiny k.tiny l.1)

at_most_cases : (a b : WholeParts) → a ≼ b → (a ≺ b) ⊎ (a ≡ b)
at_most_cases a b (inl h) = inl (inl h)
at_most_cases a b (inr h) = go (grind (arith, ints))
  where
    go : ((a.tiny <ℤ b.tiny) ⊎ (a.tiny ≡ b.tiny)) → (a ≺ b) ⊎ (a ≡ b)
    go (inl k) = inl (inr (h.0, k))
    go (inr k) = inr (same_pairs a b h.0 k)

at_most_from : (x y : Parts) (a b : WholeParts) (d : ℕ) → ArePartsOver x a d → ArePartsOver y b d → a ≼ b → IsAtMost IsLess SameParts x y
at_most_from x y a b d h k l = elim (at_most_cases a b l) [
  | inl m ↦ inl (less_from x y a b d h k m)
  | inr e ↦ inr (same_over x y a b d (λ c. ap (part c) e) h k)
]

past_closed : (e : End Parts) (x : Parts) → is_open e ≡ false → IsAtMost IsLess SameParts (value_of e) x → IsPast IsLess SameParts e x
past_closed (Closed v) x o h = h
past_closed (Open v) x o h = absurd (cc)

before_closed : (e : End Parts) (x : Parts) → is_open e ≡ false → IsAtMost IsLess SameParts x (value_of e) → IsBefore IsLess SameParts e x
before_closed (Closed v) x o h = h
before_closed (Open v) x o h = absurd (cc)

-- ---- spans at first
module _ (ranges : List (Interval Parts)) (good : AreRanges ranges) where
  pub some_first : (v : ℕ) → IsNonempty (first_spans ranges v)
  some_first v = go (lt_or_le v (length ranges))
    where
      go : ((v < length ranges) ⊎ (length ranges ≤ v)) → IsNonempty (first_spans ranges v)
      go (inr l) = subst (λ (a : Span). IsNonempty a) (sym (first_none ranges v l)) (le_refl no_parts)
      go (inl l) = elim (le_or_gt (first_spans ranges v).low (first_spans ranges v).high) [
        | inl h ↦ h
        | inr h ↦ absurd ((good v l).2 (inl (less_from (value_of (range_at ranges v).high) (value_of (range_at ranges v).low) (first_spans ranges v).high (first_spans ranges v).low (scale_of ranges) (first_high ranges v l) (first_low ranges v l) h)))
      ]

-- ---- sums of rows
signed_over : (b : Bool) (x : Parts) (a : WholeParts) (d : ℕ) → ArePartsOver x a d → ArePartsOver (parts_with_sign b x) (record { real = number_with_sign b a.real; tiny = number_with_sign b a.tiny }) d
signed_over false x a d h = h
signed_over true x a d h = neg_parts_over x a d h

pub row_total_over : (row : List (ℕ × Bool)) (z : ℕ → Parts) (w : ℕ → WholeParts) (d : ℕ) → 0 < d → ((p : ℕ) → IsIn p (points_of row) → ArePartsOver (z p) (w p) d) → ArePartsOver (row_total row z) (record { real = row_sum row (λ p. (w p).real); tiny = row_sum row (λ p. (w p).tiny) }) d
row_total_over [] z w d p h = zero_parts_over d p
row_total_over (e ∷ row) z w d p h = sum_parts_over (parts_with_sign e.1 (z e.0)) (row_total row z) _ _ d (signed_over e.1 (z e.0) (w e.0) d (h e.0 (inl refl))) (row_total_over row z w d p (λ q i. h q (inr i)))

-- an end by its multiplier
pub named_over : (k : ℤ) (range : Interval Parts) (a : Span) (d : ℕ) → ArePartsOver (value_of range.low) a.low d → ArePartsOver (value_of range.high) a.high d → ArePartsOver (named_end k range) (record { real = bound false k a; tiny = bound true k a }) d
named_over (pos zero) range a d low high = zero_parts_over d low.real.positive
named_over (pos (suc k)) range a d low high = low
named_over (negsuc k) range a d low high = neg_parts_over (value_of range.high) a.high d high

zero_bound : (c : Bool) (u : ℤ) → bound c u no_span ≡ pos 0
zero_bound c (pos zero) = refl
zero_bound false (pos (suc n)) = refl
zero_bound true (pos (suc n)) = refl
zero_bound false (negsuc n) = refl
zero_bound true (negsuc n) = refl

no_room : (z : WholeParts) (c : Bool) → IsWithin no_span z → part c z ≡ pos 0
no_room z false w = grind (arith, ints)
no_room z true w = grind (arith, ints)

-- where nothing is to be undone, all is there
whole_trail : {E : Type 0} (parts : E → Parts) (d : ℕ) (g : Graph) (ws : List ℕ) (o : ℕ → Span) (vs : List ℕ) (a : ℕ → Span) → IsTrail parts d g ws o [] vs a → (vs ≡ ws) × (a ≡ o)
whole_trail parts d g ws o vs a start = (refl, refl)

-- values as parts
value_over : {E : Type 0} (parts : E → Parts) (d : ℕ) (values : List E) (z : ℕ → WholeParts) → AreValuesOver parts d values z → (p : ℕ) → p < length values → ArePartsOver (value_at (map parts values) p) (z p) d
value_over parts d [] z h p l = absurd (omega arith)
value_over parts d (x ∷ values) z h p l = subst (λ (y : Parts). ArePartsOver y (z p) d) (sym (get_or-map parts (x ∷ values) p x zero_parts l)) (h p x l)

module _ {E : Type 0} (parts : E → Parts) (forest : Forest E) (links : List Link) (listing : IsListing (graph_of (length forest.ranges) forest.rows) (length forest.ranges + length forest.rows) links) (good : AreRows (length forest.ranges) forest.rows) where
  abbrev ranges : List (Interval Parts)
  ranges = ranges_of parts forest.ranges

  abbrev n : ℕ
  n = length forest.ranges

  count : length (ranges_of parts forest.ranges) ≡ length forest.ranges
  count = length-map forest.ranges _

  known : (v : ℕ) → IsIn v (vertices links) → v < length (ranges_of parts forest.ranges) + length forest.rows
  known v i = subst (λ (k : ℕ). v < k + length forest.rows) (sym count) (listing.known v i)

  all : (v : ℕ) → v < length (ranges_of parts forest.ranges) + length forest.rows → IsIn v (vertices links)
  all v l = listing.all v (subst (λ (k : ℕ). v < k + length forest.rows) count l)

  past : (v : ℕ) → length forest.ranges ≤ v → first_spans (ranges_of parts forest.ranges) v ≡ no_span
  past v l = first_none ranges v (omega (arith, count))

  module _ (closed : AreRanges (ranges_of parts forest.ranges)) (values : List E) (h : AreSettled parts forest links [] values) where
    trail_is : (h.left ≡ vertices links) × (h.now ≡ first_spans ranges)
    trail_is = whole_trail parts (scale_of ranges) (graph_of n forest.rows) (vertices links) (first_spans ranges) h.left h.now h.trail

    settles : AreVertexValues (graph_of n forest.rows) (vertices links) (first_spans ranges) h.value
    settles = subst (λ (a : ℕ → Span). AreVertexValues (graph_of n forest.rows) (vertices links) a h.value) trail_is.1 (subst (λ (vs : List ℕ). AreVertexValues (graph_of n forest.rows) vs h.now h.value) trail_is.0 h.settles)

    kept : List E
    kept = take n values

    kept_length : length (take (length forest.ranges) values) ≡ length forest.ranges
    kept_length = length-take-le n values (omega (arith, h.each))

    kept_over : (p : ℕ) → p < length forest.ranges → ArePartsOver (value_at (map parts (take (length forest.ranges) values)) p) (h.value p) (scale_of (ranges_of parts forest.ranges))
    kept_over p l = value_over parts (scale_of ranges) (take n values) h.value (λ v e m. let b : v < n = omega (arith, kept_length) in rw (get_or-take n values v e b) (h.hold v e (omega (arith, h.each)))) p (omega (arith, kept_length))

    pub solves : Solves forest.rows (ranges_of parts forest.ranges) (map parts (take (length forest.ranges) values))
    unfolding graph_of
    solves = record {
      each = length-map (take n values) parts ∙ kept_length ∙ sym count;
      within = λ p l.
          let b : p < n = omega (arith, count) in
          let w : IsWithin (first_spans ranges p) (h.value p) = settles.within p (all p (omega arith)) in
          record {
            low = past_closed (range_at ranges p).low _ (closed p l).0 (at_most_from (value_of (range_at ranges p).low) _ (first_spans ranges p).low (h.value p) (scale_of ranges) (first_low ranges p l) (kept_over p b) w.low);
            high = before_closed (range_at ranges p).high _ (closed p l).1 (at_most_from _ (value_of (range_at ranges p).high) (h.value p) (first_spans ranges p).high (scale_of ranges) (kept_over p b) (first_high ranges p l) w.high);
          };
      met = λ i l. same_over _ zero_parts _ no_parts (scale_of ranges) (λ c. pick i c ∙ met i l c ∙ none c)
          (row_total_over (row_at forest.rows i) (value_at (map parts (take n values))) h.value (scale_of ranges) (positive_scale ranges) (λ p k. kept_over p ((good i l).0 p k)))
          (zero_parts_over (scale_of ranges) (positive_scale ranges));
      signed_sums = λ p l.
          let b : p < n = omega (arith, count) in
          signed_of ranges (length forest.rows) (vertices links) listing.once known all _ (h.value p) (signed_sum (vertices links) (first_spans ranges) p (h.value p) listing.once (all p (omega arith)) (settles.signed p (all p (omega arith)))) (kept_over p b);
    }
      where
        none : (c : Bool) → pos 0 ≡ part c no_parts
        none false = refl
        none true = refl

        pick : (i : ℕ) (c : Bool) → part c (record { real = row_sum (row_at forest.rows i) (λ p. (h.value p).real); tiny = row_sum (row_at forest.rows i) (λ p. (h.value p).tiny) }) ≡ row_sum (row_at forest.rows i) (λ p. part c (h.value p))
        pick i false = refl
        pick i true = refl

        met : (i : ℕ) → i < length forest.rows → (c : Bool) → row_sum (row_at forest.rows i) (λ p. part c (h.value p)) ≡ pos 0
        met i l c =
            row_by_weights (vertices links) (row_at forest.rows i) (λ p. part c (h.value p)) listing.once (λ p k. listing.all p (let b : p < n = (good i l).0 p k in omega arith))
            ∙ (sum_same (vertices links) _ _ (λ v k. ap (λ (t : ℤ). t *ℤ part c (h.value v)) (sym (row_weight n forest.rows good i v l)))
            ∙ (sym (settles.meets (n + i) (listing.all _ (omega arith)) (row_true n _ (omega arith)) c)
            ∙ no_room (h.value (n + i)) c (rw (past (n + i) (omega arith)) at (settles.within (n + i) (listing.all _ (omega arith))))))

  module _ (us : List ℤ) (h : AreRefuted parts forest links [] us) where
    refuted_trail : (h.left ≡ vertices links) × (h.now ≡ first_spans ranges)
    refuted_trail = whole_trail parts (scale_of ranges) (graph_of n forest.rows) (vertices links) (first_spans ranges) h.left h.now h.trail

    refutes : Refutes (graph_of n forest.rows) (vertices links) (first_spans ranges) (multiplier_at us)
    refutes = subst (λ (a : ℕ → Span). Refutes (graph_of n forest.rows) (vertices links) a (multiplier_at us)) refuted_trail.1 (subst (λ (vs : List ℕ). Refutes (graph_of n forest.rows) vs h.now (multiplier_at us)) refuted_trail.0 h.refutes)

    end_is : (p : ℕ) → p < length forest.ranges → multiplier_at (take (length forest.ranges) us) p ≡ multiplier_at us p
    end_is p l = get_or-take n us p (pos 0) l

    row_is : (i : ℕ) → multiplier_at (drop (length forest.ranges) us) i ≡ multiplier_at us (length forest.ranges + i)
    row_is i = get_or-drop n us i (pos 0)

    end_unit : (p : ℕ) → IsUnit (multiplier_at (take (length forest.ranges) us) p)
    end_unit p = go (lt_or_le p n)
      where
        go : ((p < n) ⊎ (n ≤ p)) → IsUnit (multiplier_at (take n us) p)
        go (inl l) = rw (end_is p l) (refutes.unit p)
        go (inr l) = inl (get_or_past (take n us) p (pos 0) (omega (arith, length-take-le n us (omega (arith, h.each)))))

    pub contradicts : Contradicts forest.rows (ranges_of parts forest.ranges) (drop (length forest.ranges) us) (take (length forest.ranges) us)
    unfolding graph_of
    contradicts = record {
      each_row = length-drop n us ∙ (let e = h.each in omega arith);
      each_end = length-take-le n us (omega (arith, h.each)) ∙ sym count;
      row_units = λ i. rw (row_is i) (refutes.unit (n + i));
      end_units = end_unit;
      cancels = λ p l.
          let b : p < n = omega (arith, count) in
          let a : multiplier_at us p +ℤ sum_over (vertices links) (λ r. weigh_of n forest.rows r p *ℤ multiplier_at us r) ≡ pos 0 = refutes.cancels p (all p (omega arith)) (row_false n p b) in
          let e : sum_over (vertices links) (λ r. weigh_of n forest.rows r p *ℤ multiplier_at us r) ≡ sum_below (length forest.rows) (λ i. weigh_of n forest.rows (n + i) p *ℤ multiplier_at us (n + i)) = rows_listed n (length forest.rows) (vertices links) listing.once listing.known listing.all (λ r. weigh_of n forest.rows r p *ℤ multiplier_at us r) (λ v j. no_weight (weigh_of n forest.rows v p) (multiplier_at us v) (rw (row_false n v j))) in
          let f : sum_below (length forest.rows) (λ i. weigh_of n forest.rows (n + i) p *ℤ multiplier_at us (n + i)) ≡ sum_below (length forest.rows) (λ i. row_sum (row_at forest.rows i) (unit_at p) *ℤ multiplier_at (drop n us) i) = same_below (length forest.rows) _ _ (λ i j. rw (row_is i) (ap (λ (t : ℤ). t *ℤ multiplier_at us (n + i)) (row_weight n forest.rows good i p j))) in
          rw (end_is p b) (ap (λ (t : ℤ). multiplier_at us p +ℤ t) (sym (e ∙ f)) ∙ a);
      positive = less_from zero_parts _ no_parts _ (scale_of ranges) (zero_parts_over (scale_of ranges) (positive_scale ranges))
          (parts_below_over (length ranges) (λ p. named_end (multiplier_at (take n us) p) (range_at ranges p)) (λ p. record { real = bound false (multiplier_at (take n us) p) (first_spans ranges p); tiny = bound true (multiplier_at (take n us) p) (first_spans ranges p) }) (scale_of ranges) (positive_scale ranges)
          (λ p l. named_over (multiplier_at (take n us) p) (range_at ranges p) (first_spans ranges p) (scale_of ranges) (first_low ranges p l) (first_high ranges p l)))
          (rw (← bounds false, ← bounds true) refutes.positive);
    }
      where
        bounds : (c : Bool) → sum_over (vertices links) (λ v. bound c (multiplier_at us v) (first_spans ranges v)) ≡ sum_below (length ranges) (λ p. bound c (multiplier_at (take n us) p) (first_spans ranges p))
        bounds c = points_listed (length ranges) (length forest.rows) (vertices links) listing.once known all (λ v. bound c (multiplier_at us v) (first_spans ranges v)) (λ v l. ap (bound c (multiplier_at us v)) (first_none ranges v l) ∙ zero_bound c (multiplier_at us v)) ∙ same_below (length ranges) _ _ (λ p l. rw (end_is p (omega (arith, count))))

-- ---- the beginning and the end of narrowing
pub narrowed_first : {E : Type 0} (parts : E → Parts) (forest : Forest E) (links : List Link) (spans : List (Bounds E)) (undos : List (Undo E)) → undos ≡ [] → AreRanges (ranges_of parts forest.ranges)
    → AreSpansOver parts (scale_of (ranges_of parts forest.ranges)) spans (first_spans (ranges_of parts forest.ranges)) → length spans ≡ length forest.ranges + length forest.rows → IsNarrowed parts forest links 0 spans undos
narrowed_first parts forest links spans undos none good hold each = subst (λ (us : List (Undo _)). IsNarrowed parts forest links 0 spans us) (sym none) (record {
  now = first_spans (ranges_of parts forest.ranges);
  trail = start;
  hold = hold;
  some = λ v i. some_first (ranges_of parts forest.ranges) good v;
  each = each;
})

pub all_taken : {E : Type 0} (parts : E → Parts) (forest : Forest E) (links : List Link) (spans : List (Bounds E)) (undos : List (Undo E)) → IsNarrowed parts forest links (length links) spans undos → AreAllTaken parts forest links undos
all_taken parts forest links spans undos h = record { now = h.now; trail = subst (λ (ls : List Link). IsTrailOf parts forest links undos (vertices ls) h.now) (drop-length links) h.trail }
