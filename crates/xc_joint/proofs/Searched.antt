-- Numbers that ascend, and where each of them stands.
use Rattle.std.proofs.Common.{◌≡◌, ℕ, zero, suc, ◌+◌, ◌-◌, ◌<◌, ◌≤◌, List, [], ◌∷◌, length, get_or, inl, inr, sym, subst, arith, Err}
use Rattle.std.specs.Prelude.{All, Result}
use Rattle.std.specs.List.Sorted.{IsStrictlySortedBy, IsStrictlyIncreasing, IsBinarySearchResult}
use Rattle.std.specs.Ordering.{nat_cmp}
use Rattle.std.proofs.lemmas.List.Sorted.{searched}
use Rattle.std.proofs.lemmas.Map.Keys.{IsStrictlyIncreasing-from_sorted}
use Rattle.xc_model.proofs.Integers.{lt_or_le}
use Rattle.xc_joint.proofs.Sizes.{place_of}
use Rattle.xc_lists.specs.Members.{IsIn}

rises_by : (xs : List ℕ) → IsStrictlyIncreasing xs → (i k : ℕ) → i + k < length xs → get_or xs i 0 + k ≤ get_or xs (i + k) 0
rises_by xs up i zero l =
    let place : i + 0 ≡ i = omega arith in
    subst (λ j. get_or xs i 0 + 0 ≤ get_or xs j 0) (sym place) (omega arith)
rises_by xs up i (suc k) l =
    let before = rises_by xs up i k (omega (arith, l)) in
    let step : get_or xs (i + k) 0 < get_or xs (i + k + 1) 0 = up (i + k) (omega (arith, l)) in
    let place : i + k + 1 ≡ i + suc k = omega arith in
    let step' : get_or xs (i + k) 0 < get_or xs (i + suc k) 0 = subst (λ j. get_or xs (i + k) 0 < get_or xs j 0) place step in
    omega (arith, before, step')

-- later numbers are greater
pub rises : (xs : List ℕ) → IsStrictlySortedBy nat_cmp xs → (i j : ℕ) → i < j → j < length xs → get_or xs i 0 < get_or xs j 0
rises xs up i j l k =
    let path : i + (j - i) ≡ j = omega (arith, l) in
    let h = rises_by xs (IsStrictlyIncreasing-from_sorted xs up) i (j - i) (omega (arith, l, k)) in
    let h' : get_or xs i 0 + (j - i) ≤ get_or xs j 0 = subst (λ m. get_or xs i 0 + (j - i) ≤ get_or xs m 0) path h in
    omega (arith, h', l)

pub rises_or : (xs : List ℕ) → IsStrictlySortedBy nat_cmp xs → (i j : ℕ) → i ≤ j → j < length xs → get_or xs i 0 ≤ get_or xs j 0
rises_or xs up i j l k =
    let path : i + (j - i) ≡ j = omega (arith, l) in
    let h = rises_by xs (IsStrictlyIncreasing-from_sorted xs up) i (j - i) (omega (arith, l, k)) in
    let h' : get_or xs i 0 + (j - i) ≤ get_or xs j 0 = subst (λ m. get_or xs i 0 + (j - i) ≤ get_or xs m 0) path h in
    omega (arith, h')

-- what is in the list is found
pub is_found : (xs : List ℕ) (x : ℕ) (r : Result ℕ ℕ) (e : ℕ) → IsStrictlySortedBy nat_cmp xs → IsIn x xs → IsBinarySearchResult (λ y. nat_cmp y x) xs r → r ≡ Err e → ⊥
is_found xs x r e up there h is =
    let place = place_of x xs there in
    let told = searched xs x (Err e) (subst (IsBinarySearchResult (λ y. nat_cmp y x) xs) is h) (rises_or xs up) in
    elim (lt_or_le place.0 e) [
      | inl l ↦ let less = told.1 place.0 l in omega (arith, less, place.2)
      | inr l ↦ let more = told.2 place.0 l place.1 in omega (arith, more, place.2)
    ]

-- ascending numbers below n are at most n
pub at_most : (xs : List ℕ) (n : ℕ) → IsStrictlySortedBy nat_cmp xs → All (λ x. x < n) xs → length xs ≤ n
at_most [] n up below = omega arith
at_most (x ∷ xs) n up below =
    let rise = rises_by (x ∷ xs) (IsStrictlyIncreasing-from_sorted (x ∷ xs) up) 0 (length xs) (omega arith) in
    let place : 0 + length xs ≡ length xs = omega arith in
    let last = below (length xs) 0 (omega arith) in
    let rise' : get_or (x ∷ xs) 0 0 + length xs ≤ get_or (x ∷ xs) (length xs) 0 = subst (λ j. get_or (x ∷ xs) 0 0 + length xs ≤ get_or (x ∷ xs) j 0) place rise in
    omega (arith, rise', last)
