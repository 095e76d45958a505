-- The lists of a refutation that multipliers of the forest give ascend, and name what is the component's own.
use Rattle.std.proofs.Common.{◌≡◌, ◌≢◌, ℕ, zero, suc, ◌+◌, ◌<◌, ◌≤◌, Bool, true, false, ◌==◌, if◌then◌else◌, ℤ, pos, negsuc, ◌<ℤ◌, List, [], ◌∷◌, length, map, get_or, Option, Some, None, inl, inr, ◌⊎◌, refl, sym, ap, ap₂, subst, ◌∙◌, arith, add-one, true≢false}
use Rattle.std.proofs.lemmas.Bool.{eq-eqb, eqb-true, ne_eqb}
use Rattle.std.proofs.lemmas.Int.{ints}
use Rattle.std.proofs.lemmas.List.Sorted.{sum_by-IsPermutation, IsNonDecreasingBy-from_sort}
use Rattle.std.proofs.lemmas.List.Elements.{All-from_recursion}
use Rattle.xc_model.proofs.Integers.{lt_or_le}
use Rattle.std.proofs.lemmas.List.Sums.{sum_by-cons}
use Rattle.std.proofs.lemmas.Map.Keys.{sorted_from_strictly_increasing}
use Rattle.std.specs.List.{AllByRecursion}
use Rattle.std.specs.List.Sorted.{IsPermutation, IsSorted, IsStrictlySortedBy}
use Rattle.std.specs.Ordering.{nat_cmp}
use Rattle.std.specs.declared.cmp.Ordering.TheVariants.{Less}
use Rattle.std.specs.Prelude.{All, sum_by, IsSome, IsSomeAnd}
use Rattle.xc_joint.specs.Steps.Multiplied.{IsContradicted, IsMadeOf, IsListed, IsSigned, map_where, is_nonzero, is_minus, is_plus, named_bindings, named_low_facts, named_high_facts}
use Rattle.xc_joint.specs.Lists.{AreEach}
use Rattle.xc_joint.specs.Steps.OneForest.{IsSign, IsSpanOf}
use Rattle.xc_joint.specs.declared.one_forest.Span.{Span}
use Rattle.xc_joint.proofs.Cancelling.{IsPlaced}
use Rattle.xc_joint.proofs.ForestRanges.{first_in, known_in}
use Rattle.xc_interval.specs.declared.interval.Interval.{Interval}
use Rattle.xc_model.specs.Ratio.{Ratio}
use Rattle.xc_lists.proofs.Members.{is_in_at, once_of_ascending}
use Rattle.xc_system.specs.Kept.{Multipliers, IsRefutation}
use Rattle.xc_lists.specs.Members.{IsIn, IsOnce}
use Rattle.xc_system.specs.Refutations.{IsKnown, IsKnownIn}
use Rattle.xc_system.specs.Systems.{Constraints, facts_of, range_at}
use Rattle.xc_system.specs.declared.types.Component.{Component}

-- ---- how often a number stands in a list
abbrev is_this : ℕ → ℕ → ℕ
is_this v x = if x == v then 1 else 0

this_one : (v x : ℕ) → x ≡ v → is_this v x ≡ 1
this_one v x is = ap (λ b. if b then 1 else 0) (eq-eqb x v is)

absent : (v : ℕ) (xs : List ℕ) → ¬ IsIn v xs → sum_by (is_this v) xs ≡ 0
absent v [] out = refl
absent v (x ∷ xs) out =
    let other : x ≢ v = λ e. out (inl (sym e)) in
    let rest = absent v xs (λ i. out (inr i)) in
    let here : is_this v x ≡ 0 = ap (λ b. if b then 1 else 0) (ne_eqb x v other) in
    sum_by-cons (is_this v) x xs ∙ omega (arith, here, rest)

once_at_most : (v : ℕ) (xs : List ℕ) → IsOnce xs → sum_by (is_this v) xs ≤ 1
once_at_most v [] o = omega arith
once_at_most v (x ∷ xs) o = by (x == v) refl (once_at_most v xs o.1)
  where
    by : (b : Bool) → (x == v) ≡ b → sum_by (is_this v) xs ≤ 1 → sum_by (is_this v) (x ∷ xs) ≤ 1
    by true is rest =
        let none = absent v xs (subst (λ k. ¬ IsIn k xs) (eqb-true x v is) o.0) in
        let here : is_this v x ≡ 1 = ap (λ b. if b then 1 else 0) is in
        omega (arith, sum_by-cons (is_this v) x xs, here, none)
    by false is rest =
        let here : is_this v x ≡ 0 = ap (λ b. if b then 1 else 0) is in
        omega (arith, sum_by-cons (is_this v) x xs, here, rest)

there_once : (v : ℕ) (xs : List ℕ) → IsIn v xs → 1 ≤ sum_by (is_this v) xs
there_once v [] i = absurd i
there_once v (x ∷ xs) (inl e) = let here = this_one v x (sym e) in omega (arith, sum_by-cons (is_this v) x xs, here)
there_once v (x ∷ xs) (inr i) = let rest = there_once v xs i in omega (arith, sum_by-cons (is_this v) x xs, rest)

in_or_not : (v : ℕ) (xs : List ℕ) → IsIn v xs ⊎ ¬ IsIn v xs
in_or_not v [] = inr (λ i. i)
in_or_not v (x ∷ xs) = by (x == v) refl (in_or_not v xs)
  where
    by : (b : Bool) → (x == v) ≡ b → IsIn v xs ⊎ ¬ IsIn v xs → IsIn v (x ∷ xs) ⊎ ¬ IsIn v (x ∷ xs)
    by true is rest = inl (inl (sym (eqb-true x v is)))
    by false is (inl i) = inl (inr i)
    by false is (inr out) = inr (λ i. elim i [ inl e ↦ ne e | inr j ↦ out j ])
      where
        ne : v ≡ x → ⊥
        ne e = true≢false (sym (eq-eqb x v (sym e)) ∙ is)

-- what stands in a list stands in each other order of it
pub in_other : (xs ys : List ℕ) → IsPermutation xs ys → (v : ℕ) → IsIn v ys → IsIn v xs
in_other xs ys moved v i = elim (in_or_not v xs) [
  | inl there ↦ there
  | inr out ↦ let none = absent v xs out in let some = there_once v ys i in absurd (omega (arith, none, some, sum_by-IsPermutation (is_this v) xs ys moved))
]

twice : (v : ℕ) (xs : List ℕ) (k : ℕ) → suc k < length xs → get_or xs k 0 ≡ v → get_or xs (suc k) 0 ≡ v → 2 ≤ sum_by (is_this v) xs
twice v [] k l a b = absurd (omega (arith, l))
twice v (x ∷ xs) zero l a b =
    let here = this_one v x a in
    let next = there_once v xs (subst (λ y. IsIn y xs) b (is_in_at xs 0 (omega (arith, l)))) in
    omega (arith, sum_by-cons (is_this v) x xs, here, next)
twice v (x ∷ xs) (suc k) l a b = let rest = twice v xs k (omega (arith, l)) a b in omega (arith, sum_by-cons (is_this v) x xs, rest)

-- an order of a list without repetition that does not fall rises strictly
pub rises_once : (xs ys : List ℕ) → IsOnce xs → IsPermutation xs ys → ((k : ℕ) → k + 1 < length ys → get_or ys k 0 ≤ get_or ys (k + 1) 0) → IsStrictlySortedBy nat_cmp ys
rises_once xs ys once moved most_at = sorted_from_strictly_increasing ys (λ k l. step k l (lt_or_le (get_or ys k 0) (get_or ys (k + 1) 0)))
  where
    step : (k : ℕ) → k + 1 < length ys → (get_or ys k 0 < get_or ys (k + 1) 0) ⊎ (get_or ys (k + 1) 0 ≤ get_or ys k 0) → get_or ys k 0 < get_or ys (k + 1) 0
    step k l (inl less) = less
    step k l (inr least) =
        let most = most_at k l in
        let same : get_or ys (k + 1) 0 ≡ get_or ys k 0 = omega (arith, least, most) in
        let next : k + 1 ≡ suc k = add-one k in
        let two = twice (get_or ys k 0) ys k (omega (arith, l)) refl (subst (λ j. get_or ys j 0 ≡ get_or ys k 0) next same) in
        let one = once_at_most (get_or ys k 0) xs once in
        absurd (omega (arith, two, one, sum_by-IsPermutation (is_this (get_or ys k 0)) xs ys moved))

pub rises_strictly : (xs ys : List ℕ) → IsOnce xs → IsPermutation xs ys → IsSorted nat_cmp ys → IsStrictlySortedBy nat_cmp ys
rises_strictly xs ys once moved sorted = rises_once xs ys once moved (λ k l. IsNonDecreasingBy-from_sort (λ x. x) ys sorted k (k + 1) 0 (omega arith) l)

-- ---- facts of points

-- each fact is one of its point
abbrev pub AreFactsOf : Constraints → (Span → ℕ) → List ℕ → List Span → Type 0
AreFactsOf s fact points spans = AreEach (λ q x. IsIn (fact x) (facts_of s.bounds q)) points spans

module _ (s : Constraints) (placed : IsPlaced s) (test : ℤ → Bool) (fact : Span → ℕ) where
  abbrev chosen : List Span → List ℤ → List ℕ
  chosen spans es = map_where test (λ x e. fact x) spans es

  -- what is chosen is a fact of one of the points
  record Belongs (points : List ℕ) (k : ℕ) : Type 0 where
    point : ℕ
    there : IsIn point points
    of : IsIn k (facts_of s.bounds point)

  belongs : (points : List ℕ) (spans : List Span) (es : List ℤ) (k : ℕ) → AreFactsOf s fact points spans → IsIn k (chosen spans es) → Belongs points k
  belongs [] [] es k h i = absurd i
  belongs [] (x ∷ xs) es k h i = absurd h
  belongs (q ∷ qs) [] es k h i = absurd h
  belongs (q ∷ qs) (x ∷ xs) [] k h i = absurd i
  belongs (q ∷ qs) (x ∷ xs) (e ∷ es) k h i = by (test e) i (λ j. belongs qs xs es k h.1 j)
    where
      later : Belongs qs k → Belongs (q ∷ qs) k
      later b = record { point = b.point; there = inr b.there; of = b.of }

      by : (b : Bool) → IsIn k (if b then fact x ∷ chosen xs es else chosen xs es) → (IsIn k (chosen xs es) → Belongs qs k) → Belongs (q ∷ qs) k
      by true (inl is) rest = record { point = q; there = inl refl; of = subst (λ j. IsIn j (facts_of s.bounds q)) (sym is) h.0 }
      by true (inr j) rest = later (rest j)
      by false j rest = later (rest j)

  once : (points : List ℕ) (spans : List Span) (es : List ℤ) → AreFactsOf s fact points spans → IsOnce points → IsOnce (chosen spans es)
  once [] [] es h o = tt
  once [] (x ∷ xs) es h o = absurd h
  once (q ∷ qs) [] es h o = absurd h
  once (q ∷ qs) (x ∷ xs) [] h o = tt
  once (q ∷ qs) (x ∷ xs) (e ∷ es) h o = by (test e) (once qs xs es h.1 o.1) (λ i. out (belongs qs xs es (fact x) h.1 i))
    where
      out : Belongs qs (fact x) → ⊥
      out b = o.0 (subst (λ j. IsIn j qs) (sym (placed b.point (fact x) b.of) ∙ placed q (fact x) h.0) b.there)

      by : (b : Bool) → IsOnce (chosen xs es) → ¬ IsIn (fact x) (chosen xs es) → IsOnce (if b then fact x ∷ chosen xs es else chosen xs es)
      by true rest none = (none, rest)
      by false rest none = rest

known_of : (s : Constraints) (k : ℕ) → IsSome (range_at s.bounds k) → IsKnown s k
known_of s k h = by (range_at s.bounds k) h
  where
    by : (o : Option (Interval Ratio)) → IsSome o → IsSomeAnd o (λ interval. Unit {0})
    by None h = absurd (true≢false (sym h))
    by (Some i) h = tt

-- the facts of a component's spans are known, and of its points
pub spans_known : (s : Constraints) (points : List ℕ) (spans : List Span) → AreEach (IsSpanOf s) points spans → (q : ℕ) → IsIn q points → (k : ℕ) → IsIn k (facts_of s.bounds q) → IsKnown s k
spans_known s [] [] h q i k f = absurd i
spans_known s [] (x ∷ xs) h q i k f = absurd h
spans_known s (p ∷ ps) [] h q i k f = absurd h
spans_known s (p ∷ ps) (x ∷ xs) h q (inl is) k f = known_of s k (known_in s (facts_of s.bounds p) k h.0.known (subst (λ r. IsIn k (facts_of s.bounds r)) is f))
spans_known s (p ∷ ps) (x ∷ xs) h q (inr i) k f = spans_known s ps xs h.1 q i k f

pub low_facts : (s : Constraints) (points : List ℕ) (spans : List Span) → AreEach (IsSpanOf s) points spans → AreFactsOf s (λ x. x.low) points spans
low_facts s [] [] h = tt
low_facts s [] (x ∷ xs) h = absurd h
low_facts s (p ∷ ps) [] h = absurd h
low_facts s (p ∷ ps) (x ∷ xs) h = (first_in _ (facts_of s.bounds p) x.low h.0.low, low_facts s ps xs h.1)

pub high_facts : (s : Constraints) (points : List ℕ) (spans : List Span) → AreEach (IsSpanOf s) points spans → AreFactsOf s (λ x. x.high) points spans
high_facts s [] [] h = tt
high_facts s [] (x ∷ xs) h = absurd h
high_facts s (p ∷ ps) [] h = absurd h
high_facts s (p ∷ ps) (x ∷ xs) h = (first_in _ (facts_of s.bounds p) x.high h.0.high, high_facts s ps xs h.1)

-- ---- what is listed

listed_numbers : (ks : List ℕ) (ms : List (ℕ × Ratio)) → AreEach IsListed ks ms → map (λ m. m.0) ms ≡ ks
listed_numbers [] [] h = refl
listed_numbers [] (m ∷ ms) h = absurd h
listed_numbers (k ∷ ks) [] h = absurd h
listed_numbers (k ∷ ks) (m ∷ ms) h = ap₂ (λ x xs. x ∷ xs) h.0.0 (listed_numbers ks ms h.1)

listed_all : (P : ℕ → Type 0) (ks : List ℕ) (ms : List (ℕ × Ratio)) → AreEach IsListed ks ms → ((k : ℕ) → IsIn k ks → P k) → AllByRecursion (λ m. P m.0) ms
listed_all P [] [] h f = tt
listed_all P [] (m ∷ ms) h f = absurd h
listed_all P (k ∷ ks) [] h f = absurd h
listed_all P (k ∷ ks) (m ∷ ms) h f = (subst P (sym h.0.0) (f k (inl refl)), listed_all P ks ms h.1 (λ j i. f j (inr i)))

listed_positive : (ks : List ℕ) (ms : List (ℕ × Ratio)) → AreEach IsListed ks ms → AllByRecursion (λ m. pos 0 <ℤ m.1.num) ms
listed_positive [] [] h = tt
listed_positive [] (m ∷ ms) h = absurd h
listed_positive (k ∷ ks) [] h = absurd h
listed_positive (k ∷ ks) (m ∷ ms) h = (subst (λ z. pos 0 <ℤ z) (sym h.0.1.0) (omega (arith, ints)), listed_positive ks ms h.1)

signed_numbers : (es : List (ℕ × Bool)) (ms : List (ℕ × Ratio)) → AreEach IsSigned es ms → map (λ m. m.0) ms ≡ map (λ e. e.0) es
signed_numbers [] [] h = refl
signed_numbers [] (m ∷ ms) h = absurd h
signed_numbers (e ∷ es) [] h = absurd h
signed_numbers (e ∷ es) (m ∷ ms) h = ap₂ (λ x xs. x ∷ xs) h.0.0 (signed_numbers es ms h.1)

sign_counts : (b : Bool) (w : Ratio) → IsSign b w → w.num ≢ pos 0
sign_counts false w h z = one_is (sym h.0 ∙ z)
  where
    one_is : pos 1 ≡ pos 0 → ⊥
    one_is e = omega (arith, ints, e)
sign_counts true w h z = minus_is (sym h.0 ∙ z)
  where
    minus_is : negsuc 0 ≡ pos 0 → ⊥
    minus_is e = omega (arith, ints, e)

signed_count : (es : List (ℕ × Bool)) (ms : List (ℕ × Ratio)) → AreEach IsSigned es ms → AllByRecursion (λ m. m.1.num ≢ pos 0) ms
signed_count [] [] h = tt
signed_count [] (m ∷ ms) h = absurd h
signed_count (e ∷ es) [] h = absurd h
signed_count (e ∷ es) (m ∷ ms) h = (sign_counts e.1 m.1 h.0.1, signed_count es ms h.1)

-- the equations that count are a part of all
bound_all : (P : ℕ → Type 0) (is : List ℕ) (bs : List ℤ) → AllByRecursion P is → AllByRecursion P (map (λ e. e.0) (named_bindings is bs))
bound_all P [] bs h = tt
bound_all P (i ∷ is) [] h = tt
bound_all P (i ∷ is) (b ∷ bs) h = by (is_nonzero b) (bound_all P is bs h.1)
  where
    by : (t : Bool) → AllByRecursion P (map (λ e. e.0) (named_bindings is bs)) → AllByRecursion P (map (λ e. e.0) (if t then (i, is_minus b) ∷ named_bindings is bs else named_bindings is bs))
    by true rest = (h.0, rest)
    by false rest = rest

bound_ascend : (is : List ℕ) (bs : List ℤ) → IsStrictlySortedBy nat_cmp is → IsStrictlySortedBy nat_cmp (map (λ e. e.0) (named_bindings is bs))
unfolding IsStrictlySortedBy
bound_ascend [] bs h = tt
bound_ascend (i ∷ is) [] h = tt
bound_ascend (i ∷ is) (b ∷ bs) h = by (is_nonzero b) (bound_all (λ y. nat_cmp i y ≡ Less) is bs h.0) (bound_ascend is bs h.1)
  where
    by : (t : Bool) → AllByRecursion (λ y. nat_cmp i y ≡ Less) (map (λ e. e.0) (named_bindings is bs)) → IsStrictlySortedBy nat_cmp (map (λ e. e.0) (named_bindings is bs)) → IsStrictlySortedBy nat_cmp (map (λ e. e.0) (if t then (i, is_minus b) ∷ named_bindings is bs else named_bindings is bs))
    by true below rest = (below, rest)
    by false below rest = rest

own_numbers : (P : ℕ → Type 0) (es : List (ℕ × Bool)) (ms : List (ℕ × Ratio)) → AreEach IsSigned es ms → AllByRecursion P (map (λ e. e.0) es) → AllByRecursion (λ m. P m.0) ms
own_numbers P [] [] h a = tt
own_numbers P [] (m ∷ ms) h a = absurd h
own_numbers P (e ∷ es) [] h a = absurd h
own_numbers P (e ∷ es) (m ∷ ms) h a = (subst P (sym h.0.0) a.0, own_numbers P es ms h.1 a.1)

all_in : (is : List ℕ) (P : ℕ → Type 0) → ((i : ℕ) → IsIn i is → P i) → AllByRecursion P is
all_in [] P h = tt
all_in (i ∷ is) P h = (h i (inl refl), all_in is P (λ j k. h j (inr k)))

-- ---- all

module _ (s : Constraints) (c : Component) (spans : List Span) (by ends : List ℤ) (r : Multipliers) (placed : IsPlaced s) (h : IsContradicted s c spans by ends) (made : IsMadeOf c spans by ends r) where
  points_once : IsOnce c.points
  points_once = once_of_ascending c.points h.is.points_ascend

  lows_rise : IsStrictlySortedBy nat_cmp made.lows
  lows_rise = rises_strictly (named_low_facts spans ends) made.lows (once s placed is_plus (λ x. x.low) c.points spans ends (low_facts s c.points spans h.spans_are) points_once) made.lows_are made.lows_ascend

  highs_rise : IsStrictlySortedBy nat_cmp made.highs
  highs_rise = rises_strictly (named_high_facts spans ends) made.highs (once s placed is_minus (λ x. x.high) c.points spans ends (high_facts s c.points spans h.spans_are) points_once) made.highs_are made.highs_ascend

  own_fact : (q k : ℕ) → IsIn q c.points → IsIn k (facts_of s.bounds q) → IsKnownIn s c k
  own_fact q k there of = (spans_known s c.points spans h.spans_are q there k of, subst (λ p. IsIn p c.points) (sym (placed q k of)) there)

  low_own : (k : ℕ) → IsIn k made.lows → IsKnownIn s c k
  low_own k i = let b = belongs s placed is_plus (λ x. x.low) c.points spans ends k (low_facts s c.points spans h.spans_are) (in_other (named_low_facts spans ends) made.lows made.lows_are k i) in own_fact b.point k b.there b.of

  high_own : (k : ℕ) → IsIn k made.highs → IsKnownIn s c k
  high_own k i = let b = belongs s placed is_minus (λ x. x.high) c.points spans ends k (high_facts s c.points spans h.spans_are) (in_other (named_high_facts spans ends) made.highs made.highs_are k i) in own_fact b.point k b.there b.of

  pub are_kept : IsRefutation r
  are_kept = record {
    bindings_ascend = subst (IsStrictlySortedBy nat_cmp) (sym (signed_numbers (named_bindings c.equations by) r.bindings made.bindings_listed)) (bound_ascend c.equations by h.is.equations_ascend);
    lows_ascend = subst (IsStrictlySortedBy nat_cmp) (sym (listed_numbers made.lows r.lows made.lows_listed)) lows_rise;
    highs_ascend = subst (IsStrictlySortedBy nat_cmp) (sym (listed_numbers made.highs r.highs made.highs_listed)) highs_rise;
    bindings_count = All-from_recursion (λ m. m.1.num ≢ pos 0) r.bindings (signed_count (named_bindings c.equations by) r.bindings made.bindings_listed);
    lows_positive = All-from_recursion (λ m. pos 0 <ℤ m.1.num) r.lows (listed_positive made.lows r.lows made.lows_listed);
    highs_positive = All-from_recursion (λ m. pos 0 <ℤ m.1.num) r.highs (listed_positive made.highs r.highs made.highs_listed);
  }

  pub bindings_own : All (λ m. IsIn m.0 c.equations) r.bindings
  bindings_own = All-from_recursion (λ m. IsIn m.0 c.equations) r.bindings (own_numbers (λ i. IsIn i c.equations) (named_bindings c.equations by) r.bindings made.bindings_listed (bound_all (λ i. IsIn i c.equations) c.equations by (all_in c.equations (λ i. IsIn i c.equations) (λ i k. k))))

  pub lows_own : All (λ m. IsKnownIn s c m.0) r.lows
  lows_own = All-from_recursion (λ m. IsKnownIn s c m.0) r.lows (listed_all (IsKnownIn s c) made.lows r.lows made.lows_listed low_own)

  pub highs_own : All (λ m. IsKnownIn s c m.0) r.highs
  highs_own = All-from_recursion (λ m. IsKnownIn s c m.0) r.highs (listed_all (IsKnownIn s c) made.highs r.highs made.highs_listed high_own)
