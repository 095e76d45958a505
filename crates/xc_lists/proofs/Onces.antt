-- Lists in which no number stands twice.
use Rattle.std.proofs.Common.{◌≡◌, ℕ, zero, suc, ◌<◌, ◌≤◌, List, [], ◌∷◌, length, get_or, drop, inl, inr, refl, sym, arith, eqb, Bool, true, false}
use Rattle.std.proofs.lemmas.Bool.{eqb-true, ne_eqb}
use Rattle.std.proofs.lemmas.Map.Steps.{length-le_from_distinct_below}
use Rattle.std.specs.List.{list_any, IsDistinct, AllByRecursion}
use Rattle.xc_lists.specs.Members.{IsIn, IsOnce}
use Rattle.xc_lists.proofs.Members.{place_of}

apart_by_test : (x : ℕ) (xs : List ℕ) → ¬ IsIn x xs → AllByRecursion (λ y. eqb x y ≡ false) xs
apart_by_test x [] h = tt
apart_by_test x (y ∷ ys) h = (ne_eqb x y (λ e. h (inl e)), apart_by_test x ys (λ i. h (inr i)))

once_by_test : (xs : List ℕ) → IsOnce xs → IsDistinct eqb xs
unfolding IsDistinct
once_by_test [] h = tt
once_by_test (x ∷ xs) h = (apart_by_test x xs h.0, once_by_test xs h.1)

in_by_test : (q : ℕ) (xs : List ℕ) → list_any (eqb q) xs ≡ true → IsIn q xs
in_by_test q [] h = absurd (cc)
in_by_test q (x ∷ xs) h = go (eqb q x) refl (λ k. in_by_test q xs k)
  where
    go : (b : Bool) → eqb q x ≡ b → (list_any (eqb q) xs ≡ true → IsIn q xs) → IsIn q (x ∷ xs)
    go true e r = inl (eqb-true q x e)
    go false e r = inr (r (rw e at h))

-- numbers below n that stand once are n at most
pub once_length : (xs : List ℕ) (n : ℕ) → IsOnce xs → ((q : ℕ) → IsIn q xs → q < n) → length xs ≤ n
once_length xs n h k = length-le_from_distinct_below xs n (once_by_test xs h) (λ q i. k q (in_by_test q xs i))

-- where no two places have one number, none stands twice
pub once_from_places : (xs : List ℕ) → ((i j : ℕ) → i < length xs → j < length xs → get_or xs i 0 ≡ get_or xs j 0 → i ≡ j) → IsOnce xs
once_from_places [] h = tt
once_from_places (x ∷ xs) h = ((λ i. let r = place_of x xs i in absurd (omega (arith, h 0 (suc r.0) (omega arith) (omega (arith, r.1)) (sym r.2)))), once_from_places xs (λ i j l m e. let s : suc i ≡ suc j = h (suc i) (suc j) (omega arith) (omega arith) e in omega arith))

-- what stands behind a place
pub behind : (xs : List ℕ) (k q : ℕ) → IsIn q (drop k xs) → (j : ℕ) × (k ≤ j) × (j < length xs) × (get_or xs j 0 ≡ q)
behind xs zero q i = let r = place_of q xs i in (r.0, omega arith, r.1, r.2)
behind [] (suc k) q i = absurd i
behind (x ∷ xs) (suc k) q i = let r = behind xs k q i in (suc r.0, omega (arith, r.1), omega (arith, r.2), r.3)
