-- Multipliers that contradict the problem of a component give a refutation that contradicts the component.
use Rattle.std.proofs.Common.{◌≡◌, ◌≢◌, ◌==◌, ◌||◌, ℕ, zero, suc, ◌<◌, Bool, true, false, if◌then◌else◌, pos, ◌<ℤ◌, List, [], ◌∷◌, length, map, get_or, Option, inl, inr, IsPermutation, refl, sym, ap, ap₂, subst, ◌∙◌, arith}
use Rattle.std.proofs.lemmas.Bool.{eq-eqb, eqb-true, ne_eqb, false≢true}
use Rattle.std.proofs.lemmas.List.Elements.{All-from_recursion, recursion_from_All}
use Rattle.std.proofs.lemmas.List.Sorted.{All-permutation, list_any-IsPermutation}
use Rattle.std.specs.List.{AllByRecursion, list_any}
use Rattle.std.specs.List.Sorted.{IsNonDecreasingBy, IsStrictlySortedBy}
use Rattle.std.specs.Option.{option_map_or}
use Rattle.std.specs.Ordering.{nat_cmp}
use Rattle.std.specs.Prelude.{All, slice_get, IsTrue}
use Rattle.xc_corners.specs.Answers.{AreListed, Contradicts, one_at, sum_over_lines as row_weighed, coefficient as row_coefficient, constant as row_constant, low_at as row_low_at, high_at as row_high_at, is_low_open as is_row_low_open, is_high_open as is_row_high_open, IsShort as IsRowShort, lists_open as row_lists_open}
use Rattle.xc_corners.specs.declared.multipliers.Multipliers.{Multipliers as ProblemMultipliers}
use Rattle.xc_corners.specs.declared.problem.Problem.{Problem}
use Rattle.xc_interval.specs.Ends.{value_of, is_open}
use Rattle.xc_interval.specs.declared.ends.End.{End}
use Rattle.xc_interval.specs.declared.interval.Interval.{Interval}
use Rattle.xc_joint.specs.CornerCauses.{line_with_number}
use Rattle.xc_joint.specs.ComponentProblems.{IsWeightedPlace, IsWeightedRow}
use Rattle.xc_joint.specs.Lists.{AreEach}
use Rattle.xc_joint.specs.Steps.OneForest.{IsRangeOf, IsSpanOf}
use Rattle.xc_joint.specs.Steps.ProblemRefutations.{IsRefutationBy, high_facts, low_facts}
use Rattle.xc_joint.specs.Steps.SpanProblems.{IsProblemBy}
use Rattle.xc_joint.specs.declared.one_forest.Span.{Span}
use Rattle.xc_joint.proofs.Ascending.{spans_known, low_facts as spans_low, high_facts as spans_high}
use Rattle.xc_joint.proofs.Each.{each_at, each_length}
use Rattle.xc_joint.proofs.ForestRows.{same_place}
use Rattle.xc_joint.proofs.NamedLines.{named_any, named_ascend, named_total, sorted_ascend}
use Rattle.xc_joint.proofs.Permuted.{total_permuted}
use Rattle.xc_joint.proofs.Placed.{placed_in}
use Rattle.xc_joint.proofs.Searched.{rises}
use Rattle.xc_joint.proofs.Sizes.{place_of}
use Rattle.xc_lists.proofs.Members.{is_in_at, once_of_ascending}
use Rattle.xc_lists.specs.Members.{IsIn}
use Rattle.xc_model.proofs.Numbers.{same-neg, same-refl, same-sum, same-sym}
use Rattle.xc_model.proofs.Signs.{negative_same, zero_same}
use Rattle.xc_model.specs.Fraction.{Fraction, SameNumber, whole, sum_of, product_of}
use Rattle.xc_model.specs.Ratio.{Ratio, fraction_of}
use Rattle.xc_system.specs.Components.{IsComponent}
use Rattle.xc_system.specs.Kept.{IsAscending, IsRefutation, Multipliers}
use Rattle.xc_system.specs.Refutations.{IsContradictionOf, IsKnown, IsKnownIn, IsShort, coefficient, constant, high_at, is_high_open, is_low_open, lists_open, low_at, total, unit_at}
use Rattle.xc_system.specs.Solutions.{IsZero, sum_over_entries}
use Rattle.xc_system.specs.Systems.{Constraints, equation_at, facts_of, point_at, range_at}
use Rattle.xc_system.specs.declared.types.Component.{Component}
use Rattle.xc_system.specs.declared.types.Entry.{Entry}

-- ---- lists

pub each_map : {X Y Z : Type 0} (R : X → Z → Type 0) (f : Y → Z) (xs : List X) (ys : List Y) → AreEach (λ x y. R x (f y)) xs ys → AreEach R xs (map f ys)
each_map R f [] [] h = tt
each_map R f [] (y ∷ ys) h = absurd h
each_map R f (x ∷ xs) [] h = absurd h
each_map R f (x ∷ xs) (y ∷ ys) h = (h.0, each_map R f xs ys h.1)

all_by : {X : Type 0} (P Q : X → Type 0) → ((x : X) → P x → Q x) → (xs : List X) → AllByRecursion P xs → AllByRecursion Q xs
all_by P Q f [] h = tt
all_by P Q f (x ∷ xs) h = (f x h.0, all_by P Q f xs h.1)

module _ (numbers : List ℕ) where
  named_all : (P : ℕ → Type 0) (lines : List (ℕ × Ratio)) → AllByRecursion (λ line. P (get_or numbers line.0 0)) lines → AllByRecursion (λ m. P m.0) (map (line_with_number numbers) lines)
  named_all P [] h = tt
  named_all P (line ∷ lines) h = (h.0, named_all P lines h.1)

  named_factors : (P : Ratio → Type 0) (lines : List (ℕ × Ratio)) → AllByRecursion (λ line. P line.1) lines → AllByRecursion (λ m. P m.1) (map (line_with_number numbers) lines)
  named_factors P [] h = tt
  named_factors P (line ∷ lines) h = (h.0, named_factors P lines h.1)

-- ---- one point

-- a point is this one exactly where its place is
same_one : (points : List ℕ) (p j k : ℕ) → IsStrictlySortedBy nat_cmp points → p < length points → get_or points p 0 ≡ j → k < length points → unit_at j (get_or points k 0) ≡ one_at p k
same_one points p j k up l is m = by (k == p) refl
  where
    by : (b : Bool) → (k == p) ≡ b → unit_at j (get_or points k 0) ≡ one_at p k
    by true e =
        let same : get_or points k 0 ≡ j = ap (λ i. get_or points i 0) (eqb-true k p e) ∙ is in
        ap (λ b. if b then whole (pos 1) else whole (pos 0)) (eq-eqb (get_or points k 0) j same) ∙ ap (λ b. if b then whole (pos 1) else whole (pos 0)) (sym e)
    by false e =
        let other : get_or points k 0 ≢ j = λ s. false≢true (sym e ∙ eq-eqb k p (same_place points k p up m l (s ∙ sym is))) in
        ap (λ b. if b then whole (pos 1) else whole (pos 0)) (ne_eqb (get_or points k 0) j other) ∙ ap (λ b. if b then whole (pos 1) else whole (pos 0)) (sym e)

-- an equation has it as often as its row has its place
entries_weigh : (points : List ℕ) (p j : ℕ) → IsStrictlySortedBy nat_cmp points → p < length points → get_or points p 0 ≡ j → (entries : List Entry) (row : List (ℕ × Ratio)) → AreEach (IsWeightedPlace points) entries row → sum_over_entries entries (unit_at j) ≡ row_weighed row (one_at p)
entries_weigh points p j up l is [] [] h = refl
entries_weigh points p j up l is [] (r ∷ rs) h = absurd h
entries_weigh points p j up l is (e ∷ es) [] h = absurd h
entries_weigh points p j up l is (e ∷ es) (r ∷ rs) h =
    let unit : unit_at j e.point ≡ one_at p r.0 = ap (unit_at j) (sym h.0.there) ∙ same_one points p j r.0 up l is h.0.inside in
    ap₂ sum_of (ap₂ (λ (w : Ratio) (y : Fraction). product_of (fraction_of w) y) (sym h.0.weight) unit) (entries_weigh points p j up l is es rs h.1)

-- ---- ends

-- what is read of the tightest low ends is what is read of the ranges; and of the high ends
low_read : {X : Type 0} (F : End Ratio → X) (d : X) (s : Constraints) (spans : List Span) (ranges : List (Interval Ratio)) → AreEach (IsRangeOf s) spans ranges → (q : ℕ) → q < length ranges → option_map_or (λ interval. F interval.low) (range_at s.bounds (get_or (low_facts spans) q 0)) d ≡ option_map_or (λ range. F range.low) (slice_get ranges q) d
low_read F d s [] [] h q l = absurd (omega (arith, l))
low_read F d s [] (r ∷ rs) h q l = absurd h
low_read F d s (x ∷ xs) [] h q l = absurd h
low_read F d s (x ∷ xs) (r ∷ rs) h zero l = ap (λ (o : Option (Interval Ratio)). option_map_or (λ interval. F interval.low) o d) h.0.low_known ∙ ap F (sym h.0.low_is)
low_read F d s (x ∷ xs) (r ∷ rs) h (suc q) l = low_read F d s xs rs h.1 q (omega (arith, l))

high_read : {X : Type 0} (F : End Ratio → X) (d : X) (s : Constraints) (spans : List Span) (ranges : List (Interval Ratio)) → AreEach (IsRangeOf s) spans ranges → (q : ℕ) → q < length ranges → option_map_or (λ interval. F interval.high) (range_at s.bounds (get_or (high_facts spans) q 0)) d ≡ option_map_or (λ range. F range.high) (slice_get ranges q) d
high_read F d s [] [] h q l = absurd (omega (arith, l))
high_read F d s [] (r ∷ rs) h q l = absurd h
high_read F d s (x ∷ xs) [] h q l = absurd h
high_read F d s (x ∷ xs) (r ∷ rs) h zero l = ap (λ (o : Option (Interval Ratio)). option_map_or (λ interval. F interval.high) o d) h.0.high_known ∙ ap F (sym h.0.high_is)
high_read F d s (x ∷ xs) (r ∷ rs) h (suc q) l = high_read F d s xs rs h.1 q (omega (arith, l))

-- ---- the lines of one side

-- one fact of each point of the component
module _ (s : Constraints) (c : Component) (is : IsComponent s c) (facts : List ℕ) (own : AreEach (λ p k. IsIn k (facts_of s.bounds p)) c.points facts) where
  size : length facts ≡ length c.points
  size = each_length (λ p k. IsIn k (facts_of s.bounds p)) c.points facts own

  fact_of : (q : ℕ) → q < length facts → IsIn (get_or facts q 0) (facts_of s.bounds (get_or c.points q 0))
  fact_of q l = each_at (λ p k. IsIn k (facts_of s.bounds p)) c.points facts q 0 0 own (omega (arith, l, size))

  owner_of : (q : ℕ) → q < length facts → point_at s.bounds (get_or facts q 0) ≡ get_or c.points q 0
  owner_of q l = placed_in s (get_or c.points q 0) (get_or facts q 0) (fact_of q l)

  apart : (i j : ℕ) → i < length facts → j < length facts → get_or facts i 0 ≡ get_or facts j 0 → i ≡ j
  apart i j l m e = same_place c.points i j is.points_ascend (omega (arith, l, size)) (omega (arith, m, size)) (sym (owner_of i l) ∙ ap (point_at s.bounds) e ∙ owner_of j m)

  -- their lines, sorted
  module _ (lines ms : List (ℕ × Ratio)) (listed : AreListed (length facts) lines) (moved : IsPermutation (map (line_with_number facts) lines) ms) where
    below : AllByRecursion (λ line. line.0 < length facts) lines
    below = recursion_from_All (λ line. line.0 < length facts) lines listed.below

    side_ascends : IsNonDecreasingBy (λ m. m.0) ms → IsAscending ms
    side_ascends sorted = sorted_ascend facts lines below apart (once_of_ascending (map (λ line. line.0) lines) listed.ascend) ms moved sorted

    side_positive : All (λ line. pos 0 <ℤ line.1.num) lines → All (λ m. pos 0 <ℤ m.1.num) ms
    side_positive h = All-permutation (λ m. pos 0 <ℤ m.1.num) (map (line_with_number facts) lines) ms moved (All-from_recursion (λ m. pos 0 <ℤ m.1.num) (map (line_with_number facts) lines) (named_factors facts (λ w. pos 0 <ℤ w.num) lines (recursion_from_All (λ line. pos 0 <ℤ line.1.num) lines h)))

    side_own : ((q k : ℕ) → IsIn q c.points → IsIn k (facts_of s.bounds q) → IsKnown s k) → All (λ m. IsKnownIn s c m.0) ms
    side_own known = All-permutation (λ m. IsKnownIn s c m.0) (map (line_with_number facts) lines) ms moved (All-from_recursion (λ m. IsKnownIn s c m.0) (map (line_with_number facts) lines) (named_all facts (IsKnownIn s c) lines (all_by (λ line. line.0 < length facts) (λ line. IsKnownIn s c (get_or facts line.0 0)) one lines below)))
      where
        one : (line : ℕ × Ratio) → line.0 < length facts → IsKnownIn s c (get_or facts line.0 0)
        one line l =
            let there : IsIn (get_or c.points line.0 0) c.points = is_in_at c.points line.0 (omega (arith, l, size)) in
            (known (get_or c.points line.0 0) (get_or facts line.0 0) there (fact_of line.0 l), subst (λ p. IsIn p c.points) (sym (owner_of line.0 l)) there)

    -- a sum over them is that over the places
    side_total : (f g : ℕ → Fraction) → ((q : ℕ) → q < length facts → f (get_or facts q 0) ≡ g q) → SameNumber (total ms f) (row_weighed lines g)
    side_total f g same = subst (SameNumber (total ms f)) (named_total facts f g lines (all_by (λ line. line.0 < length facts) (λ line. f (get_or facts line.0 0) ≡ g line.0) (λ line l. same line.0 l) lines below)) (same-sym _ _ (total_permuted f (map (line_with_number facts) lines) ms moved))

    side_any : (f g : ℕ → Bool) → ((q : ℕ) → q < length facts → f (get_or facts q 0) ≡ g q) → list_any (λ line. g line.0) lines ≡ list_any (λ m. f m.0) ms
    side_any f g same = sym (named_any facts f g lines (all_by (λ line. line.0 < length facts) (λ line. f (get_or facts line.0 0) ≡ g line.0) (λ line l. same line.0 l) lines below)) ∙ list_any-IsPermutation (λ (m : ℕ × Ratio). f m.0) (map (line_with_number facts) lines) ms moved

    side_coefficient : (p j : ℕ) → p < length c.points → get_or c.points p 0 ≡ j → SameNumber (total ms (λ k. unit_at j (point_at s.bounds k))) (row_weighed lines (one_at p))
    side_coefficient p j l at = side_total (λ k. unit_at j (point_at s.bounds k)) (one_at p) (λ q m. ap (unit_at j) (owner_of q m) ∙ same_one c.points p j q is.points_ascend l at (omega (arith, m, size)))

-- ---- all

module _ (s : Constraints) (c : Component) (is : IsComponent s c) (spans : List Span) (problem : Problem) (h : IsProblemBy s c spans problem) (m : ProblemMultipliers) (against : Contradicts problem m) where
  lows_own : AreEach (λ p k. IsIn k (facts_of s.bounds p)) c.points (low_facts spans)
  lows_own = each_map (λ p k. IsIn k (facts_of s.bounds p)) (λ x. x.low) c.points spans (spans_low s c.points spans h.bounded)

  highs_own : AreEach (λ p k. IsIn k (facts_of s.bounds p)) c.points (high_facts spans)
  highs_own = each_map (λ p k. IsIn k (facts_of s.bounds p)) (λ x. x.high) c.points spans (spans_high s c.points spans h.bounded)

  ranges_many : length problem.ranges ≡ length c.points
  ranges_many = each_length (IsRangeOf s) spans problem.ranges h.ranges ∙ each_length (IsSpanOf s) c.points spans h.bounded

  rows_many : length problem.rows ≡ length c.equations
  rows_many = each_length (IsWeightedRow s c.points) c.equations problem.rows h.rows

  lows_many : length problem.ranges ≡ length (low_facts spans)
  lows_many = ranges_many ∙ sym (size s c is (low_facts spans) lows_own)

  highs_many : length problem.ranges ≡ length (high_facts spans)
  highs_many = ranges_many ∙ sym (size s c is (high_facts spans) highs_own)

  pub lows_listed : AreListed (length (low_facts spans)) m.lows
  lows_listed = subst (λ n. AreListed n m.lows) lows_many against.lows

  pub highs_listed : AreListed (length (high_facts spans)) m.highs
  highs_listed = subst (λ n. AreListed n m.highs) highs_many against.highs

  pub rows_listed : AreListed (length c.equations) m.rows
  rows_listed = subst (λ n. AreListed n m.rows) rows_many against.rows

  module _ (r : Multipliers) (made : IsRefutationBy c spans m r) where
    pub is_kept : IsNonDecreasingBy (λ m. m.0) r.lows → IsNonDecreasingBy (λ m. m.0) r.highs → IsRefutation r
    is_kept lows_fall highs_fall = record {
      bindings_ascend = subst IsAscending (sym made.bindings) (named_ascend c.equations m.rows (recursion_from_All (λ line. line.0 < length c.equations) m.rows rows_listed.below) (rises c.equations is.equations_ascend) rows_listed.ascend);
      lows_ascend = side_ascends s c is (low_facts spans) lows_own m.lows r.lows lows_listed made.lows lows_fall;
      highs_ascend = side_ascends s c is (high_facts spans) highs_own m.highs r.highs highs_listed made.highs highs_fall;
      bindings_count = subst (λ ms. All (λ l. l.1.num ≢ pos 0) ms) (sym made.bindings) (All-from_recursion (λ l. l.1.num ≢ pos 0) (map (line_with_number c.equations) m.rows) (named_factors c.equations (λ w. w.num ≢ pos 0) m.rows (recursion_from_All (λ line. line.1.num ≢ pos 0) m.rows against.rows_count)));
      lows_positive = side_positive s c is (low_facts spans) lows_own m.lows r.lows lows_listed made.lows against.lows_positive;
      highs_positive = side_positive s c is (high_facts spans) highs_own m.highs r.highs highs_listed made.highs against.highs_positive;
    }

    known : (q k : ℕ) → IsIn q c.points → IsIn k (facts_of s.bounds q) → IsKnown s k
    known q k there of = spans_known s c.points spans h.bounded q there k of

    bindings_own : All (λ l. IsIn l.0 c.equations) r.bindings
    bindings_own = subst (λ ms. All (λ l. IsIn l.0 c.equations) ms) (sym made.bindings) (All-from_recursion (λ l. IsIn l.0 c.equations) (map (line_with_number c.equations) m.rows) (named_all c.equations (λ i. IsIn i c.equations) m.rows
        (all_by (λ line. line.0 < length c.equations) (λ line. IsIn (get_or c.equations line.0 0) c.equations) (λ line l. is_in_at c.equations line.0 l) m.rows (recursion_from_All (λ line. line.0 < length c.equations) m.rows rows_listed.below))))

    bindings_weigh : (p j : ℕ) → p < length c.points → get_or c.points p 0 ≡ j → total r.bindings (λ i. sum_over_entries (equation_at s.equations i).entries (unit_at j)) ≡ row_weighed m.rows (λ i. row_weighed (get_or problem.rows i []) (one_at p))
    bindings_weigh p j l at = ap (λ ms. total ms (λ i. sum_over_entries (equation_at s.equations i).entries (unit_at j))) made.bindings
        ∙ named_total c.equations (λ i. sum_over_entries (equation_at s.equations i).entries (unit_at j)) (λ i. row_weighed (get_or problem.rows i []) (one_at p)) m.rows (all_by (λ line. line.0 < length c.equations) (λ line. sum_over_entries (equation_at s.equations (get_or c.equations line.0 0)).entries (unit_at j) ≡ row_weighed (get_or problem.rows line.0 []) (one_at p)) one m.rows (recursion_from_All (λ line. line.0 < length c.equations) m.rows rows_listed.below))
      where
        one : (line : ℕ × Ratio) → line.0 < length c.equations → sum_over_entries (equation_at s.equations (get_or c.equations line.0 0)).entries (unit_at j) ≡ row_weighed (get_or problem.rows line.0 []) (one_at p)
        one line k = entries_weigh c.points p j is.points_ascend l at (equation_at s.equations (get_or c.equations line.0 0)).entries (get_or problem.rows line.0 []) (each_at (IsWeightedRow s c.points) c.equations problem.rows line.0 0 [] h.rows k)

    cancels : (j : ℕ) → IsIn j c.points → IsZero (coefficient s r j)
    cancels j there =
        let place = place_of j c.points there in
        let lows = side_coefficient s c is (low_facts spans) lows_own m.lows r.lows lows_listed made.lows place.0 j place.1 place.2 in
        let highs = side_coefficient s c is (high_facts spans) highs_own m.highs r.highs highs_listed made.highs place.0 j place.1 place.2 in
        let bindings = bindings_weigh place.0 j place.1 place.2 in
        let same : SameNumber (coefficient s r j) (row_coefficient problem m place.0) = same-sum _ _ _ _ (subst (SameNumber (total r.bindings (λ i. sum_over_entries (equation_at s.equations i).entries (unit_at j)))) bindings (same-refl _)) (same-sum _ _ _ _ lows (same-neg _ _ highs)) in
        zero_same (row_coefficient problem m place.0) (coefficient s r j) (same-sym _ _ same) (against.cancels place.0 (omega (arith, place.1, ranges_many)))

    low_value : (q : ℕ) → q < length (low_facts spans) → low_at s (get_or (low_facts spans) q 0) ≡ row_low_at problem q
    low_value q l = low_read (λ e. fraction_of (value_of e)) (whole (pos 0)) s spans problem.ranges h.ranges q (omega (arith, l, lows_many))

    high_value : (q : ℕ) → q < length (high_facts spans) → high_at s (get_or (high_facts spans) q 0) ≡ row_high_at problem q
    high_value q l = high_read (λ e. fraction_of (value_of e)) (whole (pos 0)) s spans problem.ranges h.ranges q (omega (arith, l, highs_many))

    low_open : (q : ℕ) → q < length (low_facts spans) → is_low_open s (get_or (low_facts spans) q 0) ≡ is_row_low_open problem q
    low_open q l = low_read is_open false s spans problem.ranges h.ranges q (omega (arith, l, lows_many))

    high_open : (q : ℕ) → q < length (high_facts spans) → is_high_open s (get_or (high_facts spans) q 0) ≡ is_row_high_open problem q
    high_open q l = high_read is_open false s spans problem.ranges h.ranges q (omega (arith, l, highs_many))

    same_constant : SameNumber (row_constant problem m) (constant s r)
    same_constant = same-sym _ _ (same-sum _ _ _ _
        (side_total s c is (high_facts spans) highs_own m.highs r.highs highs_listed made.highs (high_at s) (row_high_at problem) high_value)
        (same-neg _ _ (side_total s c is (low_facts spans) lows_own m.lows r.lows lows_listed made.lows (low_at s) (row_low_at problem) low_value)))

    same_open : row_lists_open problem m ≡ lists_open s r
    same_open = ap₂ (λ (a b : Bool). a || b)
        (side_any s c is (low_facts spans) lows_own m.lows r.lows lows_listed made.lows (is_low_open s) (is_row_low_open problem) low_open)
        (side_any s c is (high_facts spans) highs_own m.highs r.highs highs_listed made.highs (is_high_open s) (is_row_high_open problem) high_open)

    is_short : IsRowShort problem m → IsShort s r
    is_short (inl negative) = inl (negative_same (row_constant problem m) (constant s r) same_constant negative)
    is_short (inr none) = inr (zero_same (row_constant problem m) (constant s r) same_constant none.0, subst IsTrue same_open none.1)

    pub problem_contradicts : IsNonDecreasingBy (λ m. m.0) r.lows → IsNonDecreasingBy (λ m. m.0) r.highs → IsContradictionOf s c r
    problem_contradicts lows_fall highs_fall = record {
      kept = is_kept lows_fall highs_fall;
      bindings = bindings_own;
      lows = side_own s c is (low_facts spans) lows_own m.lows r.lows lows_listed made.lows known;
      highs = side_own s c is (high_facts spans) highs_own m.highs r.highs highs_listed made.highs known;
      cancels = cancels;
      short = is_short against.short;
    }
