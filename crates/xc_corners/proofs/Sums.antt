-- Sums over variables.
use Rattle.std.proofs.Common.{◌≡◌, ℕ, zero, suc, ◌+◌, ◌<◌, ◌≤◌, Bool, true, false, cond, ℤ, pos, ◌+ℤ◌, ◌*ℤ◌, neg_ℤ, ◌⊎◌, inl, inr, refl, ap, ◌∙◌, sym, arith, eqb}
use Rattle.std.proofs.lemmas.Int.{ints}
use Rattle.std.proofs.lemmas.Bool.{cases_eq, eq-eqb, ne_eqb}
use Rattle.std.proofs.Math.Nat.{add-suc, add-zero}
use Rattle.xc_model.specs.Parts.{WholeParts}
use Rattle.xc_model.proofs.Integers.{mul-add}
use Rattle.xc_corners.specs.Pairs.{sum_below}
use Rattle.xc_corners.proofs.Pairs.{Ord, StrictOrd, Ord_same, plus_le, plus_lt, plus_lt_first}

pub sum_same : (n : ℕ) (f g : ℕ → ℤ) → ((j : ℕ) → j < n → f j ≡ g j) → sum_below n f ≡ sum_below n g
sum_same zero f g h = refl
sum_same (suc n) f g h =
    let a : sum_below n f ≡ sum_below n g = sum_same n f g (λ j k. h j (omega arith)) in
    let b : f n ≡ g n = h n (omega arith) in
    omega (arith, ints)

pub sum_scale : (n : ℕ) (t : ℤ) (f : ℕ → ℤ) → t *ℤ sum_below n f ≡ sum_below n (λ j. t *ℤ f j)
sum_scale zero t f = omega (arith, ints)
sum_scale (suc n) t f = mul-add t (sum_below n f) (f n) ∙ ap (λ (z : ℤ). z +ℤ t *ℤ f n) (sum_scale n t f)

pub sum_plus : (n : ℕ) (f g : ℕ → ℤ) → sum_below n (λ j. f j +ℤ g j) ≡ sum_below n f +ℤ sum_below n g
sum_plus zero f g = refl
sum_plus (suc n) f g = let e : sum_below n (λ j. f j +ℤ g j) ≡ sum_below n f +ℤ sum_below n g = sum_plus n f g in omega (arith, ints)

abbrev pub pair_sum : ℕ → (ℕ → WholeParts) → WholeParts
pair_sum n f = record { real = sum_below n (λ j. (f j).real); tiny = sum_below n (λ j. (f j).tiny) }

pub pair_sum_le : (s : Bool) (n : ℕ) (f g : ℕ → WholeParts) → ((j : ℕ) → j < n → Ord s (f j) (g j)) → Ord s (pair_sum n f) (pair_sum n g)
pair_sum_le s zero f g h = Ord_same s _ _ refl
pair_sum_le false (suc n) f g h = plus_le (pair_sum n f) (pair_sum n g) (f n) (g n) (pair_sum_le false n f g (λ j k. h j (omega arith))) (h n (omega arith))
pair_sum_le true (suc n) f g h = plus_le (pair_sum n g) (pair_sum n f) (g n) (f n) (pair_sum_le true n f g (λ j k. h j (omega arith))) (h n (omega arith))

pub pair_sum_lt : (s : Bool) (n r : ℕ) (f g : ℕ → WholeParts) → ((j : ℕ) → j < n → Ord s (f j) (g j)) → r < n → StrictOrd s (f r) (g r) → StrictOrd s (pair_sum n f) (pair_sum n g)
pair_sum_lt s zero r f g h k l = absurd (omega arith)
pair_sum_lt s (suc n) r f g h k l = go s (cases_eq r n) (λ q. pair_sum_lt s n r f g (λ j m. h j (omega arith)) q l) h l
  where
    go : (s : Bool) → ((r ≡ n) ⊎ (r ≡ n → ⊥)) → (r < n → StrictOrd s (pair_sum n f) (pair_sum n g)) → ((j : ℕ) → j < suc n → Ord s (f j) (g j)) → StrictOrd s (f r) (g r) → StrictOrd s (pair_sum (suc n) f) (pair_sum (suc n) g)
    go false (inl e) i h l = plus_lt (pair_sum n f) (pair_sum n g) (f n) (g n) (pair_sum_le false n f g (λ j m. h j (omega arith))) (rw e at l)
    go true (inl e) i h l = plus_lt (pair_sum n g) (pair_sum n f) (g n) (f n) (pair_sum_le true n f g (λ j m. h j (omega arith))) (rw e at l)
    go false (inr e) i h l = plus_lt_first (pair_sum n f) (pair_sum n g) (f n) (g n) (i (omega arith)) (h n (omega arith))
    go true (inr e) i h l = plus_lt_first (pair_sum n g) (pair_sum n f) (g n) (f n) (i (omega arith)) (h n (omega arith))

-- f, but 0 at q
abbrev pub without : ℕ → (ℕ → ℤ) → ℕ → ℤ
without q f j = cond (eqb j q) (pos 0) (f j)

without_same : (n q : ℕ) (f : ℕ → ℤ) → n ≤ q → sum_below n (without q f) ≡ sum_below n f
without_same n q f h = sum_same n _ _ (λ j k. let e : eqb j q ≡ false = ne_eqb j q (omega arith) in rw e)

pub sum_at : (n q : ℕ) (f : ℕ → ℤ) → q < n → sum_below n f ≡ f q +ℤ sum_below n (without q f)
sum_at zero q f h = absurd (omega arith)
sum_at (suc n) q f h = go (cases_eq n q) (λ k. sum_at n q f k)
  where
    go : ((n ≡ q) ⊎ (n ≡ q → ⊥)) → (q < n → sum_below n f ≡ f q +ℤ sum_below n (without q f)) → sum_below n f +ℤ f n ≡ f q +ℤ (sum_below n (without q f) +ℤ cond (eqb n q) (pos 0) (f n))
    go (inl e) i = rw (eq-eqb n q e, without_same n q f (omega arith), e) (omega (arith, ints))
    go (inr e) i = rw (ne_eqb n q e) (omega (arith, ints, i (omega arith)))

pub sum_of_zeros : (n : ℕ) (f : ℕ → ℤ) → ((j : ℕ) → j < n → f j ≡ pos 0) → sum_below n f ≡ pos 0
sum_of_zeros zero f h = refl
sum_of_zeros (suc n) f h = let a : sum_below n f ≡ pos 0 = sum_of_zeros n f (λ j k. h j (omega arith)) in let b : f n ≡ pos 0 = h n (omega arith) in omega (arith, ints)

pub sum_more : (a m : ℕ) (f : ℕ → ℤ) → ((j : ℕ) → a ≤ j → j < a + m → f j ≡ pos 0) → sum_below (a + m) f ≡ sum_below a f
sum_more a zero f h = rw add-zero
sum_more a (suc m) f h = rw add-suc (let i : sum_below (a + m) f ≡ sum_below a f = sum_more a m f (λ j k l. h j k (omega arith)) in let z : f (a + m) ≡ pos 0 = h (a + m) (omega arith) (omega arith) in omega (arith, ints))

pub combine : (n : ℕ) (a c : ℤ) (u v : ℕ → ℤ) → sum_below n (λ j. a *ℤ u j +ℤ c *ℤ v j) ≡ a *ℤ sum_below n u +ℤ c *ℤ sum_below n v
combine n a c u v = sum_plus n _ _ ∙ ap (λ (w : ℤ). w +ℤ sum_below n (λ j. c *ℤ v j)) (sym (sum_scale n a u)) ∙ ap (λ (w : ℤ). a *ℤ sum_below n u +ℤ w) (sym (sum_scale n c v))

pub sum_minus : (n : ℕ) (f g : ℕ → ℤ) → sum_below n f +ℤ neg_ℤ (sum_below n g) ≡ sum_below n (λ j. f j +ℤ neg_ℤ (g j))
sum_minus zero f g = refl
sum_minus (suc n) f g = let i : sum_below n f +ℤ neg_ℤ (sum_below n g) ≡ sum_below n (λ j. f j +ℤ neg_ℤ (g j)) = sum_minus n f g in omega (arith, ints)
