-- Totals of whole numbers over lists of numbered factors, and sums over the numbers below n.
use Rattle.std.proofs.Common.{◌≡◌, ℕ, zero, suc, ◌<◌, Bool, true, false, cond, ◌||◌, List, [], ◌∷◌, ℤ, pos, ◌+ℤ◌, ◌*ℤ◌, ◌≤ℤ◌, ◌<ℤ◌, ◌⊎◌, inl, inr, refl, sym, ap, ap₂, ◌∙◌, arith, eqb}
use Rattle.std.proofs.lemmas.Int.{ints}
use Rattle.std.proofs.lemmas.Bool.{cases_eq, eq-eqb, ne_eqb}
use Rattle.std.specs.List.{AllByRecursion, list_any}
use Rattle.xc_model.proofs.Integers.{ring, add-mul, mul-add, mul_assoc, scale_le, scale_lt}

-- f 0 + .. + f (n - 1)
abbrev pub sum_below : ℕ → (ℕ → ℤ) → ℤ
sum_below zero f = pos 0
sum_below (suc n) f = sum_below n f +ℤ f n

pub sum_same : (n : ℕ) (f g : ℕ → ℤ) → ((j : ℕ) → j < n → f j ≡ g j) → sum_below n f ≡ sum_below n g
sum_same zero f g h = refl
sum_same (suc n) f g h =
    let a : sum_below n f ≡ sum_below n g = sum_same n f g (λ j k. h j (omega arith)) in
    let b : f n ≡ g n = h n (omega arith) in
    omega (arith, ints)

pub sum_of_zeros : (n : ℕ) (f : ℕ → ℤ) → ((j : ℕ) → j < n → f j ≡ pos 0) → sum_below n f ≡ pos 0
sum_of_zeros zero f h = refl
sum_of_zeros (suc n) f h =
    let a : sum_below n f ≡ pos 0 = sum_of_zeros n f (λ j k. h j (omega arith)) in
    let b : f n ≡ pos 0 = h n (omega arith) in
    omega (arith, ints)

-- f without its value at q
abbrev without : ℕ → (ℕ → ℤ) → ℕ → ℤ
without q f j = cond (eqb j q) (pos 0) (f j)

without_same : (n q : ℕ) (f : ℕ → ℤ) → n < suc q → sum_below n (without q f) ≡ sum_below n f
without_same n q f h = sum_same n _ _ (λ j k. let e : eqb j q ≡ false = ne_eqb j q (omega arith) in rw e)

sum_at : (n q : ℕ) (f : ℕ → ℤ) → q < n → sum_below n f ≡ f q +ℤ sum_below n (without q f)
sum_at zero q f h = absurd (omega arith)
sum_at (suc n) q f h = go (cases_eq n q) (λ k. sum_at n q f k)
  where
    go : ((n ≡ q) ⊎ (n ≡ q → ⊥)) → (q < n → sum_below n f ≡ f q +ℤ sum_below n (without q f)) → sum_below n f +ℤ f n ≡ f q +ℤ (sum_below n (without q f) +ℤ cond (eqb n q) (pos 0) (f n))
    go (inl e) i = rw (eq-eqb n q e, without_same n q f (omega arith), e) (omega (arith, ints))
    go (inr e) i = rw (ne_eqb n q e) (omega (arith, ints, i (omega arith)))

-- 1 at j, and 0 elsewhere
abbrev pub one_at : ℕ → ℕ → ℤ
one_at j k = cond (eqb k j) (pos 1) (pos 0)

units_sum : (n k : ℕ) (z : ℕ → ℤ) → k < n → sum_below n (λ j. one_at j k *ℤ z j) ≡ z k
units_sum n k z h = sum_at n k _ h ∙ rw (eq-eqb k k refl, sum_of_zeros n _ (λ j l. rest j (cases_eq j k))) (omega (arith, ints))
  where
    rest : (j : ℕ) → ((j ≡ k) ⊎ (j ≡ k → ⊥)) → without k (λ i. cond (eqb k i) (pos 1) (pos 0) *ℤ z i) j ≡ pos 0
    rest j (inl c) = rw (eq-eqb j k c)
    rest j (inr c) = rw (ne_eqb j k c, ne_eqb k j (λ d. c (sym d))) (omega (arith, ints))

-- a number, and a factor
abbrev pub Term : Type 0
Term = ℕ × ℤ

-- the sum of factor times g over the list
abbrev pub total : List Term → (ℕ → ℤ) → ℤ
total [] g = pos 0
total (t ∷ ts) g = t.1 *ℤ g t.0 +ℤ total ts g

pub total_same : (ts : List Term) (g h : ℕ → ℤ) → AllByRecursion (λ t. g t.0 ≡ h t.0) ts → total ts g ≡ total ts h
total_same [] g h a = refl
total_same (t ∷ ts) g h a = ap₂ ◌+ℤ◌ (ap (λ (v : ℤ). t.1 *ℤ v) a.0) (total_same ts g h a.1)

total_scale_right : (ts : List Term) (g : ℕ → ℤ) (c : ℤ) → total ts g *ℤ c ≡ total ts (λ k. g k *ℤ c)
total_scale_right [] g c = omega (arith, ints)
total_scale_right (t ∷ ts) g c = add-mul (t.1 *ℤ g t.0) (total ts g) c ∙ ap₂ ◌+ℤ◌ (mul_assoc t.1 (g t.0) c) (total_scale_right ts g c)

total_plus : (ts : List Term) (g h : ℕ → ℤ) → total ts (λ k. g k +ℤ h k) ≡ total ts g +ℤ total ts h
total_plus [] g h = refl
total_plus (t ∷ ts) g h = let i : total ts (λ k. g k +ℤ h k) ≡ total ts g +ℤ total ts h = total_plus ts g h in simp mul-add (omega (arith, ints))

pub total_zero : (ts : List Term) → total ts (λ k. pos 0) ≡ pos 0
total_zero [] = refl
total_zero (t ∷ ts) = let i : total ts (λ k. pos 0) ≡ pos 0 = total_zero ts in omega (arith, ints)

-- the sums change places
pub total_sum : (n : ℕ) (ts : List Term) (g : ℕ → ℕ → ℤ) → total ts (λ k. sum_below n (g k)) ≡ sum_below n (λ j. total ts (λ k. g k j))
total_sum zero ts g = total_zero ts
total_sum (suc n) ts g = total_plus ts (λ k. sum_below n (g k)) (λ k. g k n) ∙ ap (λ (v : ℤ). v +ℤ total ts (λ k. g k n)) (total_sum n ts g)

-- a total of the numbers at f is the sum over all numbers of how often each counts, times the number
pub total_by_units : (n : ℕ) (ts : List Term) (f : ℕ → ℕ) (z : ℕ → ℤ) → AllByRecursion (λ t. f t.0 < n) ts → total ts (λ k. z (f k)) ≡ sum_below n (λ j. total ts (λ k. one_at j (f k)) *ℤ z j)
total_by_units n ts f z a =
    total_same ts (λ k. z (f k)) (λ k. sum_below n (λ j. one_at j (f k) *ℤ z j)) (by ts a)
    ∙ total_sum n ts (λ k j. one_at j (f k) *ℤ z j)
    ∙ sum_same n _ _ (λ j h. sym (total_scale_right ts (λ k. one_at j (f k)) (z j)))
  where
    by : (ts : List Term) → AllByRecursion (λ t. f t.0 < n) ts → AllByRecursion (λ t. z (f t.0) ≡ sum_below n (λ j. one_at j (f t.0) *ℤ z j)) ts
    by [] a = tt
    by (t ∷ ts) a = (sym (units_sum n (f t.0) z a.0), by ts a.1)

-- the same of totals of totals
pub totals_by_units : (n : ℕ) (ts : List Term) (rows : ℕ → List Term) (z : ℕ → ℤ) → AllByRecursion (λ t. AllByRecursion (λ e. e.0 < n) (rows t.0)) ts
    → total ts (λ k. total (rows k) z) ≡ sum_below n (λ j. total ts (λ k. total (rows k) (one_at j)) *ℤ z j)
totals_by_units n ts rows z a =
    total_same ts (λ k. total (rows k) z) (λ k. sum_below n (λ j. total (rows k) (one_at j) *ℤ z j)) (by ts a)
    ∙ total_sum n ts (λ k j. total (rows k) (one_at j) *ℤ z j)
    ∙ sum_same n _ _ (λ j h. sym (total_scale_right ts (λ k. total (rows k) (one_at j)) (z j)))
  where
    by : (ts : List Term) → AllByRecursion (λ t. AllByRecursion (λ e. e.0 < n) (rows t.0)) ts → AllByRecursion (λ t. total (rows t.0) z ≡ sum_below n (λ j. total (rows t.0) (one_at j) *ℤ z j)) ts
    by [] a = tt
    by (t ∷ ts) a = (total_by_units n (rows t.0) (λ k. k) z a.0, by ts a.1)

-- order

-- a is less than b, or equal to it where that is allowed
abbrev pub IsLess : Bool → ℤ → ℤ → Type 0
IsLess true a b = a <ℤ b
IsLess false a b = a ≤ℤ b

pub less_plus : (s t : Bool) (a b c d : ℤ) → IsLess s a b → IsLess t c d → IsLess (s || t) (a +ℤ c) (b +ℤ d)
less_plus true true a b c d h k = omega (arith, ints)
less_plus true false a b c d h k = omega (arith, ints)
less_plus false true a b c d h k = omega (arith, ints)
less_plus false false a b c d h k = omega (arith, ints)

less_times : (s : Bool) (t a b : ℤ) → pos 0 <ℤ t → IsLess s a b → IsLess s (t *ℤ a) (t *ℤ b)
less_times true t a b p h = scale_lt t a b p h
less_times false t a b p h = scale_le t a b (omega (arith, ints)) h

pub total_less : (ts : List Term) (opens : ℕ → Bool) (f g : ℕ → ℤ) → AllByRecursion (λ t. (pos 0 <ℤ t.1) × IsLess (opens t.0) (f t.0) (g t.0)) ts → IsLess (list_any (λ t. opens t.0) ts) (total ts f) (total ts g)
total_less [] opens f g a = omega (arith, ints)
total_less (t ∷ ts) opens f g a = less_plus (opens t.0) (list_any (λ t. opens t.0) ts) _ _ _ _ (less_times (opens t.0) t.1 _ _ a.0.0 a.0.1) (total_less ts opens f g a.1)
