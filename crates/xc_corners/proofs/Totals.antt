-- The sum of a row as a sum over variables.
use Rattle.std.proofs.Common.{◌≡◌, ℕ, zero, suc, ◌<◌, cond, List, [], ◌∷◌, ℤ, pos, ◌+ℤ◌, ◌*ℤ◌, ◌⊎◌, inl, inr, refl, sym, ap, ap₂, ◌∙◌, arith, eqb}
use Rattle.std.proofs.lemmas.Int.{ints}
use Rattle.std.proofs.lemmas.Bool.{cases_eq, eq-eqb, ne_eqb}
use Rattle.std.proofs.lemmas.List.Elements.{recursion_from_All}
use Rattle.std.specs.List.{All, AllByRecursion}
use Rattle.xc_model.proofs.Integers.{add-mul, mul-add, mul_assoc}
use Rattle.xc_corners.specs.Pairs.{sum_below}
use Rattle.xc_corners.specs.Problems.{total, unit_at}
use Rattle.xc_corners.proofs.Sums.{sum_same, without, sum_at, sum_of_zeros}

pub total_same_by : (ls : List (ℕ × ℤ)) (g h : ℕ → ℤ) → AllByRecursion (λ e. g e.0 ≡ h e.0) ls → total ls g ≡ total ls h
total_same_by [] g h a = refl
total_same_by (e ∷ es) g h a = ap₂ ◌+ℤ◌ (ap (λ (v : ℤ). e.1 *ℤ v) a.0) (total_same_by es g h a.1)

pub total_same : (ls : List (ℕ × ℤ)) (g h : ℕ → ℤ) → All (λ e. g e.0 ≡ h e.0) ls → total ls g ≡ total ls h
total_same ls g h a = total_same_by ls g h (recursion_from_All (λ e. g e.0 ≡ h e.0) ls a)

pub total_scale_right : (ls : List (ℕ × ℤ)) (g : ℕ → ℤ) (c : ℤ) → total ls g *ℤ c ≡ total ls (λ k. g k *ℤ c)
total_scale_right [] g c = omega (arith, ints)
total_scale_right (e ∷ es) g c = add-mul (e.1 *ℤ g e.0) (total es g) c ∙ ap₂ ◌+ℤ◌ (mul_assoc e.1 (g e.0) c) (total_scale_right es g c)

pub total_plus : (ls : List (ℕ × ℤ)) (g h : ℕ → ℤ) → total ls (λ k. g k +ℤ h k) ≡ total ls g +ℤ total ls h
total_plus [] g h = refl
total_plus (e ∷ es) g h = let i : total es (λ k. g k +ℤ h k) ≡ total es g +ℤ total es h = total_plus es g h in simp mul-add (omega (arith, ints))

pub total_zero : (ls : List (ℕ × ℤ)) → total ls (λ k. pos 0) ≡ pos 0
total_zero [] = refl
total_zero (e ∷ es) = let i : total es (λ k. pos 0) ≡ pos 0 = total_zero es in omega (arith, ints)

-- the sums change places
pub total_sum : (n : ℕ) (ls : List (ℕ × ℤ)) (g : ℕ → ℕ → ℤ) → total ls (λ k. sum_below n (g k)) ≡ sum_below n (λ j. total ls (λ k. g k j))
total_sum zero ls g = total_zero ls
total_sum (suc n) ls g = total_plus ls (λ k. sum_below n (g k)) (λ k. g k n) ∙ ap (λ (v : ℤ). v +ℤ total ls (λ k. g k n)) (total_sum n ls g)

pub units_sum : (n k : ℕ) (z : ℕ → ℤ) → k < n → sum_below n (λ j. unit_at j k *ℤ z j) ≡ z k
units_sum n k z h = sum_at n k _ h ∙ rw (eq-eqb k k refl, sum_of_zeros n _ (λ j l. rest j (cases_eq j k))) (omega (arith, ints))
  where
    rest : (j : ℕ) → ((j ≡ k) ⊎ (j ≡ k → ⊥)) → without k (λ i. cond (eqb k i) (pos 1) (pos 0) *ℤ z i) j ≡ pos 0
    rest j (inl c) = rw (eq-eqb j k c)
    rest j (inr c) = rw (ne_eqb j k c, ne_eqb k j (λ d. c (sym d))) (omega (arith, ints))

-- a total is the sum of its coefficients times the numbers
pub total_by_units_at : (n : ℕ) (ls : List (ℕ × ℤ)) (f : ℕ → ℕ) (z : ℕ → ℤ) → All (λ e. f e.0 < n) ls → total ls (λ k. z (f k)) ≡ sum_below n (λ j. total ls (λ k. unit_at j (f k)) *ℤ z j)
total_by_units_at n ls f z a =
    total_same ls (λ k. z (f k)) (λ k. sum_below n (λ j. unit_at j (f k) *ℤ z j)) (λ k d h. sym (units_sum n _ z (a k d h)))
    ∙ total_sum n ls (λ k j. unit_at j (f k) *ℤ z j)
    ∙ sum_same n _ _ (λ j h. sym (total_scale_right ls (λ k. unit_at j (f k)) (z j)))

pub total_by_units : (n : ℕ) (ls : List (ℕ × ℤ)) (z : ℕ → ℤ) → All (λ e. e.0 < n) ls → total ls z ≡ sum_below n (λ j. total ls (unit_at j) *ℤ z j)
total_by_units n ls z a = total_by_units_at n ls (λ k. k) z a
