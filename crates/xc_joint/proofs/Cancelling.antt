-- In the refutation that multipliers of the forest give no value counts.
use Rattle.std.proofs.Common.{◌≡◌, ◌≢◌, ℕ, zero, suc, ◌+◌, ◌<◌, Bool, true, false, ◌==◌, if◌then◌else◌, ℤ, pos, negsuc, neg_ℤ, ◌+ℤ◌, ◌*ℤ◌, List, [], ◌∷◌, length, map, get_or, inl, inr, refl, sym, ap, subst, ◌∙◌, arith}
use Rattle.std.proofs.lemmas.Bool.{eq-eqb, eqb-true, ne_eqb, false≢true}
use Rattle.std.specs.List.Sorted.{IsStrictlySortedBy}
use Rattle.std.specs.Ordering.{nat_cmp}
use Rattle.std.proofs.lemmas.Int.{ints}
use Rattle.std.proofs.lemmas.List.Sorted.{sum_by-IsPermutation}
use Rattle.std.proofs.lemmas.List.Sums.{sum_by-cons}
use Rattle.std.specs.Prelude.{sum_by}
use Rattle.xc_forest.specs.Forests.{IsUnit, row_sum, row_at, number_with_sign, sum_below, multiplier_at, unit_at as place_unit}
use Rattle.xc_joint.specs.Small.{closed_pairs}
use Rattle.xc_joint.specs.Steps.Multiplied.{IsContradicted, IsMadeOf, IsListed, IsSigned, named_low_facts, named_high_facts, named_bindings}
use Rattle.xc_joint.specs.Lists.{AreEach}
use Rattle.xc_joint.specs.Steps.OneForest.{IsSign, IsSignedPlace, IsRangeOf, IsRowOf, IsSpanOf}
use Rattle.xc_joint.specs.declared.one_forest.Span.{Span}
use Rattle.xc_joint.proofs.Each.{each_length}
use Rattle.xc_joint.proofs.Evaluated.{difference_over, product_over}
use Rattle.xc_joint.proofs.ForestRanges.{first_in, map_size}
use Rattle.xc_joint.proofs.ForestRows.{same_place}
use Rattle.xc_joint.proofs.Signs.{fraction_one, fraction_minus}
use Rattle.xc_joint.proofs.Sizes.{place_of}
use Rattle.xc_model.specs.Fraction.{Fraction, IsNumberOver, whole, difference_of, product_of}
use Rattle.xc_model.specs.Ratio.{Ratio, fraction_of}
use Rattle.xc_model.proofs.NumbersOver.{sum_number}
use Rattle.xc_system.specs.Kept.{Multipliers}
use Rattle.xc_lists.specs.Members.{IsIn, IsOnce}
use Rattle.xc_lists.proofs.Members.{is_in_at, once_of_ascending}
use Rattle.xc_system.specs.Refutations.{coefficient, total, unit_at}
use Rattle.xc_system.specs.Solutions.{IsZero, sum_over_entries}
use Rattle.xc_system.specs.Systems.{Constraints, equation_at, facts_of, point_at}
use Rattle.xc_system.specs.declared.types.Component.{Component}
use Rattle.xc_system.specs.declared.types.Entry.{Entry}

-- ---- whole numbers

abbrev IsWhole : Fraction → ℤ → Type 0
IsWhole x z = IsNumberOver x z 1

whole_itself : (z : ℤ) → IsWhole (whole z) z
whole_itself z = record { positive = omega arith; cross = refl }

whole_product : (x y : Fraction) (a b : ℤ) → IsWhole x a → IsWhole y b → IsWhole (product_of x y) (a *ℤ b)
whole_product x y a b h k = product_over x y a b 1 1 h k

whole_zero : (x : Fraction) → IsWhole x (pos 0) → IsZero x
whole_zero x h = omega (arith, ints, h.cross)

by_sign : (b : Bool) (w : Ratio) (x : Fraction) (z : ℤ) → IsSign b w → IsWhole x z → IsWhole (product_of (fraction_of w) x) (number_with_sign b z)
by_sign false w x z h k = subst (IsWhole (product_of (fraction_of w) x)) (omega (arith, ints)) (whole_product (fraction_of w) x (pos 1) z (fraction_one w h) k)
by_sign true w x z h k = subst (IsWhole (product_of (fraction_of w) x)) (omega (arith, ints)) (whole_product (fraction_of w) x (negsuc 0) z (fraction_minus w h) k)

sum_front : (n : ℕ) (f : ℕ → ℤ) → sum_below (suc n) f ≡ f 0 +ℤ sum_below n (λ i. f (suc i))
sum_front zero f = omega (arith, ints)
sum_front (suc n) f = let e : sum_below (suc n) f ≡ f 0 +ℤ sum_below n (λ i. f (suc i)) = sum_front n f in omega (arith, ints, e)

-- ---- ends

-- 1 where the fact is of this point
abbrev one_of : Constraints → ℕ → ℕ → ℕ
one_of s j k = if point_at s.bounds k == j then 1 else 0

unit_whole : (j p : ℕ) → IsWhole (unit_at j p) (pos (if p == j then 1 else 0))
unit_whole j p = by (p == j)
  where
    by : (b : Bool) → IsWhole (if b then whole (pos 1) else whole (pos 0)) (pos (if b then 1 else 0))
    by true = whole_itself (pos 1)
    by false = whole_itself (pos 0)

sum_cons : (f : ℕ → ℕ) (x : ℕ) (xs : List ℕ) → sum_by f (x ∷ xs) ≡ f x + sum_by f xs
sum_cons f x xs = sum_by-cons f x xs

pub listed_whole : (s : Constraints) (j : ℕ) (ks : List ℕ) (ms : List (ℕ × Ratio)) → AreEach IsListed ks ms → IsWhole (total ms (λ k. unit_at j (point_at s.bounds k))) (pos (sum_by (one_of s j) ks))
listed_whole s j [] [] h = whole_itself (pos 0)
listed_whole s j [] (m ∷ ms) h = absurd h
listed_whole s j (k ∷ ks) [] h = absurd h
listed_whole s j (k ∷ ks) (m ∷ ms) h =
    let here = by_sign false m.1 (unit_at j (point_at s.bounds m.0)) _ h.0.1 (unit_whole j (point_at s.bounds m.0)) in
    let here' : IsWhole (product_of (fraction_of m.1) (unit_at j (point_at s.bounds m.0))) (pos (one_of s j k)) = subst (λ i. IsWhole (product_of (fraction_of m.1) (unit_at j (point_at s.bounds m.0))) (pos (one_of s j i))) h.0.0 here in
    let split : sum_by (one_of s j) (k ∷ ks) ≡ one_of s j k + sum_by (one_of s j) ks = sum_cons (one_of s j) k ks in
    subst (IsWhole (total (m ∷ ms) (λ i. unit_at j (point_at s.bounds i)))) (both (one_of s j k) (sum_by (one_of s j) ks) ∙ ap pos (sym split))
    (sum_number (product_of (fraction_of m.1) (unit_at j (point_at s.bounds m.0))) (total ms (λ i. unit_at j (point_at s.bounds i))) (pos (one_of s j k)) (pos (sum_by (one_of s j) ks)) 1 here' (listed_whole s j ks ms h.1))
  where
    both : (a b : ℕ) → pos a +ℤ pos b ≡ pos (a + b)
    both a b = omega (arith, ints)

-- the multipliers of the ends of this point
abbrev ends_at : ℕ → List ℕ → List ℤ → ℤ
ends_at j [] es = pos 0
ends_at j (q ∷ qs) [] = pos 0
ends_at j (q ∷ qs) (e ∷ es) = (if q == j then e else pos 0) +ℤ ends_at j qs es

-- the point of a fact in a list of those of a point
abbrev pub IsPlaced : Constraints → Type 0
IsPlaced s = (p k : ℕ) → IsIn k (facts_of s.bounds p) → point_at s.bounds k ≡ p

abbrev AreUnits : List ℤ → Type 0
AreUnits es = (p : ℕ) → IsUnit (multiplier_at es p)

-- the low ends less the high ends that are named at a point are its multipliers
named_at : (s : Constraints) (placed : IsPlaced s) (j : ℕ) (points : List ℕ) (spans : List Span) (es : List ℤ) → AreEach (IsSpanOf s) points spans → AreUnits es
    → pos (sum_by (one_of s j) (named_low_facts spans es)) +ℤ neg_ℤ (pos (sum_by (one_of s j) (named_high_facts spans es))) ≡ ends_at j points es
named_at s placed j [] [] es h u = refl
named_at s placed j [] (x ∷ xs) es h u = absurd h
named_at s placed j (q ∷ qs) [] es h u = absurd h
named_at s placed j (q ∷ qs) (x ∷ xs) [] h u = refl
named_at s placed j (q ∷ qs) (x ∷ xs) (e ∷ es) h u = by e (u 0) (named_at s placed j qs xs es h.1 (λ p. u (suc p)))
  where
    low_here : one_of s j x.low ≡ (if q == j then 1 else 0)
    low_here = ap (λ k. if k == j then 1 else 0) (placed q x.low (first_in _ (facts_of s.bounds q) x.low h.0.low))

    high_here : one_of s j x.high ≡ (if q == j then 1 else 0)
    high_here = ap (λ k. if k == j then 1 else 0) (placed q x.high (first_in _ (facts_of s.bounds q) x.high h.0.high))

    plus : (b : Bool) (a l m : ℕ) (z : ℤ) → a ≡ (if b then 1 else 0) → pos l +ℤ neg_ℤ (pos m) ≡ z → pos (a + l) +ℤ neg_ℤ (pos m) ≡ (if b then pos 1 else pos 0) +ℤ z
    plus true a l m z e k = omega (arith, ints, e, k)
    plus false a l m z e k = omega (arith, ints, e, k)

    minus : (b : Bool) (a l m : ℕ) (z : ℤ) → a ≡ (if b then 1 else 0) → pos l +ℤ neg_ℤ (pos m) ≡ z → pos l +ℤ neg_ℤ (pos (a + m)) ≡ (if b then negsuc 0 else pos 0) +ℤ z
    minus true a l m z e k = omega (arith, ints, e, k)
    minus false a l m z e k = omega (arith, ints, e, k)

    neither : (b : Bool) (l m : ℕ) (z : ℤ) → pos l +ℤ neg_ℤ (pos m) ≡ z → pos l +ℤ neg_ℤ (pos m) ≡ (if b then pos 0 else pos 0) +ℤ z
    neither true l m z k = omega (arith, ints, k)
    neither false l m z k = omega (arith, ints, k)

    by : (e : ℤ) → IsUnit e → (pos (sum_by (one_of s j) (named_low_facts xs es)) +ℤ neg_ℤ (pos (sum_by (one_of s j) (named_high_facts xs es))) ≡ ends_at j qs es) → pos (sum_by (one_of s j) (named_low_facts (x ∷ xs) (e ∷ es))) +ℤ neg_ℤ (pos (sum_by (one_of s j) (named_high_facts (x ∷ xs) (e ∷ es)))) ≡ (if q == j then e else pos 0) +ℤ ends_at j qs es
    by e (inl z) rest = subst (λ e. pos (sum_by (one_of s j) (named_low_facts (x ∷ xs) (e ∷ es))) +ℤ neg_ℤ (pos (sum_by (one_of s j) (named_high_facts (x ∷ xs) (e ∷ es)))) ≡ (if q == j then e else pos 0) +ℤ ends_at j qs es) (sym z) (neither (q == j) (sum_by (one_of s j) (named_low_facts xs es)) (sum_by (one_of s j) (named_high_facts xs es)) (ends_at j qs es) rest)
    by e (inr (inl z)) rest = subst (λ e. pos (sum_by (one_of s j) (named_low_facts (x ∷ xs) (e ∷ es))) +ℤ neg_ℤ (pos (sum_by (one_of s j) (named_high_facts (x ∷ xs) (e ∷ es)))) ≡ (if q == j then e else pos 0) +ℤ ends_at j qs es) (sym z) (ap (λ n. pos n +ℤ neg_ℤ (pos (sum_by (one_of s j) (named_high_facts xs es)))) (sum_cons (one_of s j) x.low (named_low_facts xs es)) ∙ plus (q == j) (one_of s j x.low) (sum_by (one_of s j) (named_low_facts xs es)) (sum_by (one_of s j) (named_high_facts xs es)) (ends_at j qs es) low_here rest)
    by e (inr (inr z)) rest = subst (λ e. pos (sum_by (one_of s j) (named_low_facts (x ∷ xs) (e ∷ es))) +ℤ neg_ℤ (pos (sum_by (one_of s j) (named_high_facts (x ∷ xs) (e ∷ es)))) ≡ (if q == j then e else pos 0) +ℤ ends_at j qs es) (sym z) (ap (λ n. pos (sum_by (one_of s j) (named_low_facts xs es)) +ℤ neg_ℤ (pos n)) (sum_cons (one_of s j) x.high (named_high_facts xs es)) ∙ minus (q == j) (one_of s j x.high) (sum_by (one_of s j) (named_low_facts xs es)) (sum_by (one_of s j) (named_high_facts xs es)) (ends_at j qs es) high_here rest)

-- a point that is not among these has none
ends_none : (j : ℕ) (qs : List ℕ) (es : List ℤ) → ¬ IsIn j qs → ends_at j qs es ≡ pos 0
ends_none j [] es out = refl
ends_none j (q ∷ qs) [] out = refl
ends_none j (q ∷ qs) (e ∷ es) out = by (q == j) refl (ends_none j qs es (λ i. out (inr i)))
  where
    by : (b : Bool) → (q == j) ≡ b → ends_at j qs es ≡ pos 0 → (if b then e else pos 0) +ℤ ends_at j qs es ≡ pos 0
    by true is rest = absurd (out (inl (sym (eqb-true q j is))))
    by false is rest = omega (arith, ints, rest)

-- and one among them its own
ends_one : (j p : ℕ) (qs : List ℕ) (es : List ℤ) → IsOnce qs → p < length qs → get_or qs p 0 ≡ j → length es ≡ length qs → ends_at j qs es ≡ multiplier_at es p
ends_one j p [] es o l is same = absurd (omega (arith, l))
ends_one j p (q ∷ qs) [] o l is same = absurd (omega (arith, same))
ends_one j zero (q ∷ qs) (e ∷ es) o l is same =
    let none = ends_none j qs es (subst (λ i. ¬ IsIn i qs) is o.0) in
    ap (λ b. (if b then e else pos 0) +ℤ ends_at j qs es) (eq-eqb q j is) ∙ omega (arith, ints, none)
ends_one j (suc p) (q ∷ qs) (e ∷ es) o l is same =
    let next = ends_one j p qs es o.1 (omega (arith, l)) is (omega (arith, same)) in
    let other : q ≢ j = λ e. o.0 (subst (λ i. IsIn i qs) (is ∙ sym e) (is_in_at qs p (omega (arith, l)))) in
    ap (λ b. (if b then e else pos 0) +ℤ ends_at j qs es) (ne_eqb q j other) ∙ omega (arith, ints, next)

-- ---- equations

-- the places of two points are the same exactly where they are
same_unit : (points : List ℕ) (p j k q : ℕ) → IsStrictlySortedBy nat_cmp points → p < length points → get_or points p 0 ≡ j → k < length points → get_or points k 0 ≡ q → pos (if q == j then 1 else 0) ≡ place_unit p k
same_unit points p j k q up l is m at = by (k == p) refl
  where
    number : (b : Bool) → pos (if b then 1 else 0) ≡ (if b then pos 1 else pos 0)
    number true = refl
    number false = refl

    by : (b : Bool) → (k == p) ≡ b → pos (if q == j then 1 else 0) ≡ (if k == p then pos 1 else pos 0)
    by true e = let same : q ≡ j = sym at ∙ ap (λ i. get_or points i 0) (eqb-true k p e) ∙ is in ap (λ b. pos (if b then 1 else 0)) (eq-eqb q j same) ∙ ap (λ b. if b then pos 1 else pos 0) (sym e)
    by false e = let other : q ≢ j = λ s. false≢true (sym e ∙ eq-eqb k p (same_place points k p up m l (at ∙ s ∙ sym is))) in ap (λ b. pos (if b then 1 else 0)) (ne_eqb q j other) ∙ ap (λ b. if b then pos 1 else pos 0) (sym e)

weighed_whole : (points : List ℕ) (p j : ℕ) → IsStrictlySortedBy nat_cmp points → p < length points → get_or points p 0 ≡ j → (entries : List Entry) (row : List (ℕ × Bool)) → AreEach (IsSignedPlace points) entries row → IsWhole (sum_over_entries entries (unit_at j)) (row_sum row (place_unit p))
weighed_whole points p j up l is [] [] h = whole_itself (pos 0)
weighed_whole points p j up l is [] (r ∷ rs) h = absurd h
weighed_whole points p j up l is (e ∷ es) [] h = absurd h
weighed_whole points p j up l is (e ∷ es) (r ∷ rs) h =
    let unit = subst (IsWhole (unit_at j e.point)) (same_unit points p j r.0 e.point up l is h.0.inside h.0.there) (unit_whole j e.point) in
    sum_number (product_of (fraction_of e.weight) (unit_at j e.point)) (sum_over_entries es (unit_at j)) (number_with_sign r.1 (place_unit p r.0)) (row_sum rs (place_unit p)) 1 (by_sign r.1 e.weight (unit_at j e.point) (place_unit p r.0) h.0.sign unit) (weighed_whole points p j up l is es rs h.1)

-- the sum over rows of what they give times their multipliers
abbrev rows_at : ℕ → List (List (ℕ × Bool)) → List ℤ → ℤ
rows_at p [] bs = pos 0
rows_at p (r ∷ rs) [] = pos 0
rows_at p (r ∷ rs) (b ∷ bs) = row_sum r (place_unit p) *ℤ b +ℤ rows_at p rs bs

rows_below : (p : ℕ) (rows : List (List (ℕ × Bool))) (bs : List ℤ) → length bs ≡ length rows → rows_at p rows bs ≡ sum_below (length rows) (λ i. row_sum (row_at rows i) (place_unit p) *ℤ multiplier_at bs i)
rows_below p [] bs same = refl
rows_below p (r ∷ rs) [] same = absurd (omega (arith, same))
rows_below p (r ∷ rs) (b ∷ bs) same = ap (λ z. row_sum r (place_unit p) *ℤ b +ℤ z) (rows_below p rs bs (omega (arith, same))) ∙ sym (sum_front (length rs) (λ i. row_sum (row_at (r ∷ rs) i) (place_unit p) *ℤ multiplier_at (b ∷ bs) i))

-- the listed equations are worth the same
bound_whole : (s : Constraints) (points : List ℕ) (p j : ℕ) → IsStrictlySortedBy nat_cmp points → p < length points → get_or points p 0 ≡ j → (is : List ℕ) (rows : List (List (ℕ × Bool))) (bs : List ℤ) (ms : List (ℕ × Ratio))
    → AreEach (IsRowOf s points) is rows → AreUnits bs → AreEach IsSigned (named_bindings is bs) ms → IsWhole (total ms (λ i. sum_over_entries (equation_at s.equations i).entries (unit_at j))) (rows_at p rows bs)
bound_whole s points p j up l at [] [] bs ms h u m = none ms m
  where
    none : (ms : List (ℕ × Ratio)) → AreEach IsSigned [] ms → IsWhole (total ms (λ i. sum_over_entries (equation_at s.equations i).entries (unit_at j))) (pos 0)
    none [] m = whole_itself (pos 0)
    none (x ∷ xs) m = absurd m
bound_whole s points p j up l at [] (r ∷ rs) bs ms h u m = absurd h
bound_whole s points p j up l at (i ∷ is) [] bs ms h u m = absurd h
bound_whole s points p j up l at (i ∷ is) (r ∷ rs) [] ms h u m = none ms m
  where
    none : (ms : List (ℕ × Ratio)) → AreEach IsSigned [] ms → IsWhole (total ms (λ i. sum_over_entries (equation_at s.equations i).entries (unit_at j))) (pos 0)
    none [] m = whole_itself (pos 0)
    none (x ∷ xs) m = absurd m
bound_whole s points p j up l at (i ∷ is) (r ∷ rs) (b ∷ bs) ms h u m = by b (u 0) ms m (λ ns n. bound_whole s points p j up l at is rs bs ns h.1 (λ q. u (suc q)) n) (weighed_whole points p j up l at (equation_at s.equations i).entries r h.0)
  where
    worth : Fraction → ℤ → Type 0
    worth x z = IsWhole x z

    signed_sum : (minus : Bool) (b : ℤ) (ms : List (ℕ × Ratio)) → ((z : ℤ) → number_with_sign minus z ≡ z *ℤ b) → AreEach IsSigned ((i, minus) ∷ named_bindings is bs) ms
        → ((ns : List (ℕ × Ratio)) → AreEach IsSigned (named_bindings is bs) ns → IsWhole (total ns (λ i. sum_over_entries (equation_at s.equations i).entries (unit_at j))) (rows_at p rs bs))
        → IsWhole (sum_over_entries (equation_at s.equations i).entries (unit_at j)) (row_sum r (place_unit p))
        → IsWhole (total ms (λ i. sum_over_entries (equation_at s.equations i).entries (unit_at j))) (row_sum r (place_unit p) *ℤ b +ℤ rows_at p rs bs)
    signed_sum minus b [] times m rest here = absurd m
    signed_sum minus b (x ∷ xs) times m rest here =
        let own = subst (λ k. IsWhole (sum_over_entries (equation_at s.equations k).entries (unit_at j)) (row_sum r (place_unit p))) (sym m.0.0) here in
        let turned = subst (IsWhole (product_of (fraction_of x.1) (sum_over_entries (equation_at s.equations x.0).entries (unit_at j)))) (times (row_sum r (place_unit p))) (by_sign minus x.1 (sum_over_entries (equation_at s.equations x.0).entries (unit_at j)) (row_sum r (place_unit p)) m.0.1 own) in
        sum_number (product_of (fraction_of x.1) (sum_over_entries (equation_at s.equations x.0).entries (unit_at j))) (total xs (λ i. sum_over_entries (equation_at s.equations i).entries (unit_at j))) (row_sum r (place_unit p) *ℤ b) (rows_at p rs bs) 1 turned (rest xs m.1)

    skip : (x y : ℤ) → y ≡ x *ℤ pos 0 +ℤ y
    skip x y = omega (arith, ints)

    same : (z : ℤ) → z ≡ z *ℤ pos 1
    same z = omega (arith, ints)

    turned : (z : ℤ) → neg_ℤ z ≡ z *ℤ negsuc 0
    turned z = omega (arith, ints)

    by : (b : ℤ) → IsUnit b → (ms : List (ℕ × Ratio)) → AreEach IsSigned (named_bindings (i ∷ is) (b ∷ bs)) ms
        → ((ns : List (ℕ × Ratio)) → AreEach IsSigned (named_bindings is bs) ns → IsWhole (total ns (λ i. sum_over_entries (equation_at s.equations i).entries (unit_at j))) (rows_at p rs bs))
        → IsWhole (sum_over_entries (equation_at s.equations i).entries (unit_at j)) (row_sum r (place_unit p))
        → IsWhole (total ms (λ i. sum_over_entries (equation_at s.equations i).entries (unit_at j))) (row_sum r (place_unit p) *ℤ b +ℤ rows_at p rs bs)
    by b (inl z) ms m rest here = subst (λ b. AreEach IsSigned (named_bindings (i ∷ is) (b ∷ bs)) ms → IsWhole (total ms (λ i. sum_over_entries (equation_at s.equations i).entries (unit_at j))) (row_sum r (place_unit p) *ℤ b +ℤ rows_at p rs bs)) (sym z)
        (λ k. subst (IsWhole (total ms (λ i. sum_over_entries (equation_at s.equations i).entries (unit_at j)))) (skip (row_sum r (place_unit p)) (rows_at p rs bs)) (rest ms k)) m
    by b (inr (inl z)) ms m rest here = subst (λ b. AreEach IsSigned (named_bindings (i ∷ is) (b ∷ bs)) ms → IsWhole (total ms (λ i. sum_over_entries (equation_at s.equations i).entries (unit_at j))) (row_sum r (place_unit p) *ℤ b +ℤ rows_at p rs bs)) (sym z)
        (λ k. signed_sum false (pos 1) ms same k rest here) m
    by b (inr (inr z)) ms m rest here = subst (λ b. AreEach IsSigned (named_bindings (i ∷ is) (b ∷ bs)) ms → IsWhole (total ms (λ i. sum_over_entries (equation_at s.equations i).entries (unit_at j))) (row_sum r (place_unit p) *ℤ b +ℤ rows_at p rs bs)) (sym z)
        (λ k. signed_sum true (negsuc 0) ms turned k rest here) m

-- ---- all

pub cancels : (s : Constraints) (c : Component) (spans : List Span) (by ends : List ℤ) (r : Multipliers) → IsPlaced s → IsContradicted s c spans by ends → IsMadeOf c spans by ends r → (j : ℕ) → IsIn j c.points → IsZero (coefficient s r j)
cancels s c spans by ends r placed h made j there =
    let place = place_of j c.points there in
    let p = place.0 in
    let lows = subst (λ n. IsWhole (total r.lows (λ k. unit_at j (point_at s.bounds k))) (pos n)) (sum_by-IsPermutation (one_of s j) (named_low_facts spans ends) made.lows made.lows_are) (listed_whole s j made.lows r.lows made.lows_listed) in
    let highs = subst (λ n. IsWhole (total r.highs (λ k. unit_at j (point_at s.bounds k))) (pos n)) (sum_by-IsPermutation (one_of s j) (named_high_facts spans ends) made.highs made.highs_are) (listed_whole s j made.highs r.highs made.highs_listed) in
    let points_up = h.is.points_ascend in
    let count : length (map closed_pairs h.ranges) ≡ length c.points = map_size closed_pairs h.ranges ∙ each_length (IsRangeOf s) spans h.ranges h.ranges_are ∙ each_length (IsSpanOf s) c.points spans h.spans_are in
    let at_point = ends_one j place.0 c.points ends (once_of_ascending c.points points_up) place.1 place.2 (h.contradicts.each_end ∙ count) in
    let ends_whole = difference_whole (total r.lows (λ k. unit_at j (point_at s.bounds k))) (total r.highs (λ k. unit_at j (point_at s.bounds k))) _ _ lows highs in
    let bindings = bound_whole s c.points place.0 j points_up place.1 place.2 c.equations h.rows by r.bindings h.rows_are h.contradicts.row_units made.bindings_listed in
    let all = sum_number (total r.bindings (λ i. sum_over_entries (equation_at s.equations i).entries (unit_at j))) (difference_of (total r.lows (λ k. unit_at j (point_at s.bounds k))) (total r.highs (λ k. unit_at j (point_at s.bounds k)))) _ _ 1 bindings ends_whole in
    let named = named_at s placed j c.points spans ends h.spans_are h.contradicts.end_units in
    let below = rows_below place.0 h.rows by h.contradicts.each_row in
    let none = h.contradicts.cancels place.0 (omega (arith, count, place.1)) in
    whole_zero (coefficient s r j) (subst (IsWhole (coefficient s r j)) (nothing _ _ _ _ below (named ∙ at_point) none) all)
  where
    difference_whole : (x y : Fraction) (a b : ℤ) → IsWhole x a → IsWhole y b → IsWhole (difference_of x y) (a +ℤ neg_ℤ b)
    difference_whole x y a b h k = difference_over x y a b 1 h k

    nothing : (rows below a e : ℤ) → rows ≡ below → a ≡ e → e +ℤ below ≡ pos 0 → rows +ℤ a ≡ pos 0
    nothing rows below a e g h k = omega (arith, ints, g, h, k)
