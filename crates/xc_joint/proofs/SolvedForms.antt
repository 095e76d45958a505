-- What one solved form of a corner says, each other one says too.
use Rattle.std.proofs.Common.{◌≡◌, ℕ, zero, suc, ◌*◌, ◌<◌, Bool, true, false, cond, ℤ, pos, ◌+ℤ◌, ◌*ℤ◌, ◌≤ℤ◌, ◌<ℤ◌, inl, inr, refl, sym, ap, ap₂, subst, ◌∙◌, arith}
use Rattle.std.proofs.Math.Nat.{mul-pos}
use Rattle.std.proofs.lemmas.Int.{ints}
use Rattle.xc_corners.specs.Corners.{variables, low_bound, high_bound, bound, Corner, Factors, IsSolvedForm, IsWithin, IsOutside, spread, sum_for, value}
use Rattle.xc_corners.specs.Ending.{IsTight}
use Rattle.xc_corners.specs.Laws.{HasOneSolvedForm}
use Rattle.xc_corners.specs.Operations.{IsValuePart}
use Rattle.xc_corners.specs.Pairs.{◌≺◌, ◌≼◌, times, sum_below}
use Rattle.xc_corners.specs.Problems.{WholeProblem}
use Rattle.xc_model.specs.Parts.{WholeParts}
use Rattle.xc_model.specs.Ratio.{Ratio}
use Rattle.xc_model.proofs.Integers.{cancel, cancel_lt, cancel_le, mul-add, mul_assoc, mul_comm, mul_left_comm, ring, scale_le, scale_lt}

-- ---- numbers over t, and the same over u

positive : (n : ℕ) → 0 < n → pos 0 <ℤ pos n
positive n h = omega (arith, ints, h)

some : (n : ℕ) → 0 < n → pos n ≡ pos 0 → ⊥
some n h e = omega (arith, ints, h, e)

-- v over t is the same as w over u
module _ (t u : ℕ) (pt : 0 < t) (pu : 0 < u) (v w : ℤ) (same : pos u *ℤ v ≡ pos t *ℤ w) where
  below_over : (l : ℤ) → v <ℤ (pos t *ℤ l) → w <ℤ (pos u *ℤ l)
  below_over l h = cancel_lt (pos t) w (pos u *ℤ l) (positive t pt)
      (subst (λ (z : ℤ). (pos t *ℤ w) <ℤ z) (mul_left_comm (pos u) (pos t) l) (subst (λ (z : ℤ). z <ℤ (pos u *ℤ (pos t *ℤ l))) same (scale_lt (pos u) v (pos t *ℤ l) (positive u pu) h)))

  above_over : (l : ℤ) → (pos t *ℤ l) <ℤ v → (pos u *ℤ l) <ℤ w
  above_over l h = cancel_lt (pos t) (pos u *ℤ l) w (positive t pt)
      (subst (λ (z : ℤ). z <ℤ (pos t *ℤ w)) (mul_left_comm (pos u) (pos t) l) (subst (λ (z : ℤ). (pos u *ℤ (pos t *ℤ l)) <ℤ z) same (scale_lt (pos u) (pos t *ℤ l) v (positive u pu) h)))

  at_most_over : (l : ℤ) → v ≤ℤ (pos t *ℤ l) → w ≤ℤ (pos u *ℤ l)
  at_most_over l h = cancel_le (pos t) w (pos u *ℤ l) (positive t pt)
      (subst (λ (z : ℤ). (pos t *ℤ w) ≤ℤ z) (mul_left_comm (pos u) (pos t) l) (subst (λ (z : ℤ). z ≤ℤ (pos u *ℤ (pos t *ℤ l))) same (scale_le (pos u) v (pos t *ℤ l) (omega (arith, ints)) h)))

  at_least_over : (l : ℤ) → (pos t *ℤ l) ≤ℤ v → (pos u *ℤ l) ≤ℤ w
  at_least_over l h = cancel_le (pos t) (pos u *ℤ l) w (positive t pt)
      (subst (λ (z : ℤ). z ≤ℤ (pos t *ℤ w)) (mul_left_comm (pos u) (pos t) l) (subst (λ (z : ℤ). (pos u *ℤ (pos t *ℤ l)) ≤ℤ z) same (scale_le (pos u) (pos t *ℤ l) v (omega (arith, ints)) h)))

  equal_over : (l : ℤ) → v ≡ pos t *ℤ l → w ≡ pos u *ℤ l
  equal_over l e = cancel (pos t) w (pos u *ℤ l) (some t pt) (sym same ∙ ap (λ (z : ℤ). pos u *ℤ z) e ∙ mul_left_comm (pos u) (pos t) l)

  -- n / d is v over t times k
  number_over : (n d : ℤ) (k : ℕ) → n *ℤ pos (t * k) ≡ v *ℤ d → n *ℤ pos (u * k) ≡ w *ℤ d
  number_over n d k e = cancel (pos t) _ _ (some t pt) (left ∙ ap (λ (z : ℤ). pos u *ℤ z) e ∙ sym (mul_assoc (pos u) v d) ∙ ap (λ (z : ℤ). z *ℤ d) same ∙ mul_assoc (pos t) w d)
    where
      product : (a b : ℕ) → pos (a * b) ≡ pos a *ℤ pos b
      product a b = omega (arith, ints)

      left : pos t *ℤ (n *ℤ pos (u * k)) ≡ pos u *ℤ (n *ℤ pos (t * k))
      left = ap (λ (z : ℤ). pos t *ℤ (n *ℤ z)) (product u k) ∙ turn ∙ ap (λ (z : ℤ). pos u *ℤ (n *ℤ z)) (sym (product t k))
        where
          turn : pos t *ℤ (n *ℤ (pos u *ℤ pos k)) ≡ pos u *ℤ (n *ℤ (pos t *ℤ pos k))
          turn = simp ring

-- sums whose terms are the same over two numbers
sums_match : (a b : ℤ) (f g : ℕ → ℤ) (n : ℕ) → ((j : ℕ) → j < n → a *ℤ f j ≡ b *ℤ g j) → a *ℤ sum_below n f ≡ b *ℤ sum_below n g
sums_match a b f g zero h = omega (arith, ints)
sums_match a b f g (suc n) h = mul-add a (sum_below n f) (f n) ∙ ap₂ (λ (x y : ℤ). x +ℤ y) (sums_match a b f g n (λ j l. h j (omega (arith, l)))) (h n (omega arith)) ∙ sym (mul-add b (sum_below n g) (g n))

-- ---- pairs

opposite : (a b : WholeParts) → a ≺ b → b ≼ a → ⊥
opposite a b (inl h) (inl k) = omega (arith, ints, h, k)
opposite a b (inl h) (inr k) = omega (arith, ints, h, k.0)
opposite a b (inr h) (inl k) = omega (arith, ints, h.0, k)
opposite a b (inr h) (inr k) = omega (arith, ints, h.0, h.1, k.0, k.1)

round : (a b c : WholeParts) → a ≺ b → b ≼ c → c ≺ a → ⊥
round a b c (inl h) (inl k) (inl l) = omega (arith, ints, h, k, l)
round a b c (inl h) (inl k) (inr l) = omega (arith, ints, h, k, l.0)
round a b c (inl h) (inr k) (inl l) = omega (arith, ints, h, k.0, l)
round a b c (inl h) (inr k) (inr l) = omega (arith, ints, h, k.0, l.0)
round a b c (inr h) (inl k) (inl l) = omega (arith, ints, h.0, k, l)
round a b c (inr h) (inl k) (inr l) = omega (arith, ints, h.0, k, l.0)
round a b c (inr h) (inr k) (inl l) = omega (arith, ints, h.0, k.0, l)
round a b c (inr h) (inr k) (inr l) = omega (arith, ints, h.0, h.1, k.0, k.1, l.0, l.1)

module _ (t u : ℕ) (pt : 0 < t) (pu : 0 < u) (v w : WholeParts) (real : pos u *ℤ v.real ≡ pos t *ℤ w.real) (tiny : pos u *ℤ v.tiny ≡ pos t *ℤ w.tiny) where
  pair_below : (l : WholeParts) → v ≺ times (pos t) l → w ≺ times (pos u) l
  pair_below l (inl h) = inl (below_over t u pt pu v.real w.real real l.real h)
  pair_below l (inr h) = inr (equal_over t u pt pu v.real w.real real l.real h.0, below_over t u pt pu v.tiny w.tiny tiny l.tiny h.1)

  pair_above : (l : WholeParts) → times (pos t) l ≺ v → times (pos u) l ≺ w
  pair_above l (inl h) = inl (above_over t u pt pu v.real w.real real l.real h)
  pair_above l (inr h) = inr (sym (equal_over t u pt pu v.real w.real real l.real (sym h.0)), above_over t u pt pu v.tiny w.tiny tiny l.tiny h.1)

  pair_at_most : (l : WholeParts) → v ≼ times (pos t) l → w ≼ times (pos u) l
  pair_at_most l (inl h) = inl (below_over t u pt pu v.real w.real real l.real h)
  pair_at_most l (inr h) = inr (equal_over t u pt pu v.real w.real real l.real h.0, at_most_over t u pt pu v.tiny w.tiny tiny l.tiny h.1)

  pair_at_least : (l : WholeParts) → times (pos t) l ≼ v → times (pos u) l ≼ w
  pair_at_least l (inl h) = inl (above_over t u pt pu v.real w.real real l.real h)
  pair_at_least l (inr h) = inr (sym (equal_over t u pt pu v.real w.real real l.real (sym h.0)), at_least_over t u pt pu v.tiny w.tiny tiny l.tiny h.1)

-- ---- values

module _ (one : HasOneSolvedForm) (p : WholeProblem) (x : Corner) (t u : Factors) (st : IsSolvedForm p x t) (su : IsSolvedForm p x u) where
  -- the term of j in the sum for b
  term_match : (z : ℕ → ℤ) (b j : ℕ) → b < variables p → x.basic b ≡ true → j < variables p → (s : Bool) → x.basic j ≡ s
      → pos u.over *ℤ cond s (pos 0) (t.factor b j *ℤ z j) ≡ pos t.over *ℤ cond s (pos 0) (u.factor b j *ℤ z j)
  term_match z b j lb eb lj true e = omega (arith, ints)
  term_match z b j lb eb lj false e =
      sym (mul_assoc (pos u.over) (t.factor b j) (z j))
      ∙ ap (λ (k : ℤ). k *ℤ z j) (mul_comm (pos u.over) (t.factor b j) ∙ one p x t u b j st su lb lj eb e ∙ mul_comm (u.factor b j) (pos t.over))
      ∙ mul_assoc (pos t.over) (u.factor b j) (z j)

  sum_match : (z : ℕ → ℤ) (b : ℕ) → b < variables p → x.basic b ≡ true → pos u.over *ℤ sum_for p x t b z ≡ pos t.over *ℤ sum_for p x u b z
  unfolding sum_for
  sum_match z b lb eb = sums_match (pos u.over) (pos t.over) _ _ (variables p) (λ j l. term_match z b j lb eb l (x.basic j) refl)

  spread_match : (z : ℕ → ℤ) (j : ℕ) → j < variables p → pos u.over *ℤ spread p x t z j ≡ pos t.over *ℤ spread p x u z j
  unfolding spread
  spread_match z j l = go (x.basic j) refl
    where
      go : (s : Bool) → x.basic j ≡ s → pos u.over *ℤ cond s (sum_for p x t j z) (pos t.over *ℤ z j) ≡ pos t.over *ℤ cond s (sum_for p x u j z) (pos u.over *ℤ z j)
      go true e = sum_match z j l e
      go false e = mul_left_comm (pos u.over) (pos t.over) (z j)

  real_match : (j : ℕ) → j < variables p → pos u.over *ℤ (value p x t j).real ≡ pos t.over *ℤ (value p x u j).real
  unfolding value
  real_match j l = spread_match (λ k. (bound p x k).real) j l

  tiny_match : (j : ℕ) → j < variables p → pos u.over *ℤ (value p x t j).tiny ≡ pos t.over *ℤ (value p x u j).tiny
  unfolding value
  tiny_match j l = spread_match (λ k. (bound p x k).tiny) j l

  pub outside_too : (above : Bool) (j : ℕ) → j < variables p → IsOutside p x t above j → IsOutside p x u above j
  outside_too false j l h = pair_below t.over u.over st.positive su.positive (value p x t j) (value p x u j) (real_match j l) (tiny_match j l) (low_bound p j) h
  outside_too true j l h = pair_above t.over u.over st.positive su.positive (value p x t j) (value p x u j) (real_match j l) (tiny_match j l) (high_bound p j) h

  pub within_too : (j : ℕ) → j < variables p → IsWithin p x t j → IsWithin p x u j
  within_too j l h = (
    pair_at_least t.over u.over st.positive su.positive (value p x t j) (value p x u j) (real_match j l) (tiny_match j l) (low_bound p j) h.0,
    pair_at_most t.over u.over st.positive su.positive (value p x t j) (value p x u j) (real_match j l) (tiny_match j l) (high_bound p j) h.1,
  )

  -- a part of a value
  pub part_too : (c : Bool) (j : ℕ) (f : Ratio) → 0 < p.unit → j < variables p → IsValuePart p x t c j f → IsValuePart p x u c j f
  part_too false j f unit l h = record { positive = mul-pos su.positive unit; same = number_over t.over u.over st.positive su.positive (value p x t j).real (value p x u j).real (real_match j l) f.num f.den p.unit h.same }
  part_too true j f unit l h = record { positive = mul-pos su.positive unit; same = number_over t.over u.over st.positive su.positive (value p x t j).tiny (value p x u j).tiny (tiny_match j l) f.num f.den p.unit h.same }

  pub tight_too : (high : Bool) (j : ℕ) → j < variables p → IsTight p x t high j → IsTight p x u high j
  tight_too false j l h = (
    above_over t.over u.over st.positive su.positive (value p x t j).real (value p x u j).real (real_match j l) (low_bound p j).real h.0,
    below_over t.over u.over st.positive su.positive (value p x t j).tiny (value p x u j).tiny (tiny_match j l) (low_bound p j).tiny h.1,
  )
  tight_too true j l h = (
    below_over t.over u.over st.positive su.positive (value p x t j).real (value p x u j).real (real_match j l) (high_bound p j).real h.0,
    above_over t.over u.over st.positive su.positive (value p x t j).tiny (value p x u j).tiny (tiny_match j l) (high_bound p j).tiny h.1,
  )

-- no variable is both within its bounds and outside
pub not_outside : (p : WholeProblem) (x : Corner) (t : Factors) (above : Bool) (j : ℕ) → IsOutside p x t above j → IsWithin p x t j → ⊥
not_outside p x t false j h w = opposite (value p x t j) (times (pos t.over) (low_bound p j)) h w.0
not_outside p x t true j h w = opposite (times (pos t.over) (high_bound p j)) (value p x t j) h w.1

-- nor below its low bound and above its high one
times_pairs : (n : ℕ) (a b : WholeParts) → 0 < n → a ≼ b → times (pos n) a ≼ times (pos n) b
times_pairs n a b l (inl h) = inl (scale_lt (pos n) a.real b.real (positive n l) h)
times_pairs n a b l (inr h) = inr (ap (λ (z : ℤ). pos n *ℤ z) h.0, scale_le (pos n) a.tiny b.tiny (omega (arith, ints)) h.1)

pub not_both_outside : (p : WholeProblem) (x : Corner) (t : Factors) (j : ℕ) → 0 < t.over → low_bound p j ≼ high_bound p j → IsOutside p x t false j → IsOutside p x t true j → ⊥
not_both_outside p x t j l between low high =
    round (value p x t j) (times (pos t.over) (low_bound p j)) (times (pos t.over) (high_bound p j)) low (times_pairs t.over (low_bound p j) (high_bound p j) l between) high
