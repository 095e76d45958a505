-- The values at the next corner, by those at this one.
use Rattle.std.proofs.Common.{◌≡◌, ◌≢◌, ℕ, ◌<◌, Bool, true, false, cond, ℤ, pos, ◌+ℤ◌, ◌-ℤ◌, ◌*ℤ◌, ◌⊎◌, inl, inr, refl, sym, ap, subst, ◌∙◌, arith, eqb}
use Rattle.std.specs.Prelude.{unsigned_abs}
use Rattle.std.proofs.lemmas.Int.{ints}
use Rattle.std.proofs.lemmas.Bool.{cases_eq, eq-eqb, ne_eqb, false≢true}
use Rattle.xc_model.specs.Parts.{WholeParts}
use Rattle.xc_model.proofs.Integers.{ring, mul_left_comm, unsigned_abs_some}
use Rattle.xc_model.proofs.Pairs.{pair_cases}
use Rattle.xc_corners.specs.Choices.{corner_after_exchange}
use Rattle.xc_corners.specs.Corners.{variables, low_bound, high_bound, Corner, Factors, IsSolvedForm, bound, spread}
use Rattle.xc_corners.specs.Operations.{passed_bound}
use Rattle.xc_corners.specs.Problems.{WholeProblem}
use Rattle.xc_corners.specs.Tables.{factors_after_exchange, sign}
use Rattle.xc_corners.proofs.Moves.{kept_basic, kept_high, left_basic, left_high}
use Rattle.xc_corners.proofs.Pairs.{cancel_positive}
use Rattle.xc_corners.proofs.Pivoting.{rest_for, sum_before, exchange_solves, unsigned_abs-sign, over_is}
use Rattle.xc_corners.proofs.Sums.{sum_same, sum_scale}
use Rattle.xc_corners.proofs.Values.{spread_meets, spread_at_basic, spread_at_other}

rest_same : (p : WholeProblem) (x : Corner) (t : Factors) (k q : ℕ) (c : ℤ) (u v : ℕ → ℤ) → ((j : ℕ) → j < variables p → x.basic j ≡ false → (j ≡ q → ⊥) → u j ≡ c *ℤ v j) → rest_for p x t k q u ≡ c *ℤ rest_for p x t k q v
unfolding rest_for
rest_same p x t k q c u v h = sum_same (variables p) _ (λ j. c *ℤ cond (x.basic j) (pos 0) (cond (eqb j q) (pos 0) (t.factor k j *ℤ v j))) (λ j l. go j l (x.basic j) refl (cases_eq j q)) ∙ sym (sum_scale (variables p) c (λ j. cond (x.basic j) (pos 0) (cond (eqb j q) (pos 0) (t.factor k j *ℤ v j))))
  where
    go : (j : ℕ) → j < variables p → (s : Bool) → x.basic j ≡ s → ((j ≡ q) ⊎ (j ≡ q → ⊥)) → cond (x.basic j) (pos 0) (cond (eqb j q) (pos 0) (t.factor k j *ℤ u j)) ≡ c *ℤ cond (x.basic j) (pos 0) (cond (eqb j q) (pos 0) (t.factor k j *ℤ v j))
    go j l true e d = rw e (omega (arith, ints))
    go j l false e (inl d) = rw (e, eq-eqb j q d) (omega (arith, ints))
    go j l false e (inr d) = rw (e, ne_eqb j q d, h j l e d) (mul_left_comm (t.factor k j) c (v j))

-- s is the sign and f the factor of q in the sum for b, w the denominator; zq the bound of q and rb the rest of the sum for b
moved_q : (a w : ℕ) (s f l vb zq rb nq : ℤ) → 0 < a → pos a ≡ s *ℤ f → pos w *ℤ ((s *ℤ f *ℤ pos w) *ℤ l) ≡ f *ℤ nq +ℤ (s *ℤ f *ℤ pos w) *ℤ rb → vb ≡ f *ℤ zq +ℤ rb → nq ≡ s *ℤ (f *ℤ (pos w *ℤ zq) +ℤ pos w *ℤ (pos w *ℤ l -ℤ vb))
moved_q a w s f l vb zq rb nq ha e h k =
    let g : s *ℤ (pos w *ℤ ((s *ℤ f *ℤ pos w) *ℤ l)) ≡ s *ℤ (f *ℤ nq +ℤ (s *ℤ f *ℤ pos w) *ℤ rb) = ap (λ (v : ℤ). s *ℤ v) h in
    cancel_positive a nq _ ha (rw (e, k) (simp ring (omega (arith, ints, simp ring at g))))

moved_other : (w : ℕ) (s f c d zq vk rk nq nk : ℤ) → 0 < w → nq ≡ s *ℤ (f *ℤ (pos w *ℤ zq) +ℤ pos w *ℤ d) → pos w *ℤ nk ≡ c *ℤ nq +ℤ (s *ℤ f *ℤ pos w) *ℤ rk → vk ≡ c *ℤ zq +ℤ rk → nk ≡ s *ℤ (f *ℤ vk +ℤ c *ℤ d)
moved_other w s f c d zq vk rk nq nk hw e h k = cancel_positive w nk _ hw (h ∙ rw (e, k) (simp ring (omega (arith, ints))))

module _ (p : WholeProblem) (x : Corner) (t : Factors) (f : IsSolvedForm p x t) (above : Bool) (b q : ℕ) (hb : b < variables p) (hq : q < variables p) (eb : x.basic b ≡ true) (eq : x.basic q ≡ false) (n : t.factor b q ≢ pos 0) (c : WholeParts → ℤ) where
  unfoldable pub at_x : ℕ → ℤ
  at_x j = c (bound p x j)

  unfoldable pub at_y : ℕ → ℤ
  at_y j = c (bound p (corner_after_exchange p x above b q) j)

  b_apart : b ≡ q → ⊥
  b_apart d = false≢true (sym eq ∙ ap x.basic (sym d) ∙ eb)

  kept_bound : (j : ℕ) → (j ≡ b → ⊥) → (j ≡ q → ⊥) → at_y j ≡ at_x j
  unfolding at_x at_y bound
  kept_bound j d e = ap (λ (s : Bool). c (cond s (high_bound p j) (low_bound p j))) (kept_high p x above b q j d e)

  left_bound : at_y b ≡ c (passed_bound p above b)
  unfolding at_y bound
  left_bound = go (pair_cases (low_bound p b) (high_bound p b))
    where
      side : (s : Bool) → c (cond s (high_bound p b) (low_bound p b)) ≡ c (passed_bound p s b)
      side true = refl
      side false = refl

      same : low_bound p b ≡ high_bound p b → (r s : Bool) → c (cond r (high_bound p b) (low_bound p b)) ≡ c (passed_bound p s b)
      same d true true = refl
      same d false false = refl
      same d true false = ap c (sym d)
      same d false true = ap c d

      go : ((low_bound p b ≡ high_bound p b) ⊎ (low_bound p b ≢ high_bound p b)) → c (cond ((corner_after_exchange p x above b q).high b) (high_bound p b) (low_bound p b)) ≡ c (passed_bound p above b)
      go (inl d) = same d ((corner_after_exchange p x above b q).high b) above
      go (inr d) = ap (λ (s : Bool). c (cond s (high_bound p b) (low_bound p b))) (left_high p x above b q b_apart d) ∙ side above

  unfoldable pub next_at : ℕ → ℤ
  next_at j = spread p (corner_after_exchange p x above b q) (factors_after_exchange t b q) at_y j

  pub next_other : (j : ℕ) → x.basic j ≡ false → (j ≡ q → ⊥) → next_at j ≡ pos (factors_after_exchange t b q).over *ℤ at_x j
  unfolding next_at
  next_other j e d =
      let j_apart : j ≡ b → ⊥ = λ g. false≢true (sym e ∙ ap x.basic g ∙ eb) in
      spread_at_other p (corner_after_exchange p x above b q) (factors_after_exchange t b q) at_y j (kept_basic p x above b q j j_apart d ∙ e) ∙ ap (λ (v : ℤ). pos (factors_after_exchange t b q).over *ℤ v) (kept_bound j j_apart d)

  pub next_b : next_at b ≡ pos (factors_after_exchange t b q).over *ℤ c (passed_bound p above b)
  unfolding next_at
  next_b = spread_at_other p (corner_after_exchange p x above b q) (factors_after_exchange t b q) at_y b (left_basic p x above b q b_apart) ∙ ap (λ (v : ℤ). pos (factors_after_exchange t b q).over *ℤ v) left_bound

  row_at : (k : ℕ) → k < variables p → x.basic k ≡ true → pos t.over *ℤ next_at k ≡ t.factor k q *ℤ next_at q +ℤ (sign (t.factor b q) *ℤ t.factor b q *ℤ pos t.over) *ℤ rest_for p x t k q at_x
  unfolding next_at
  row_at k h e =
      f.sums _ (spread_meets p (corner_after_exchange p x above b q) (factors_after_exchange t b q) at_y (exchange_solves p x t above b q hb hq eb eq n f)) k h e
      ∙ sum_before p x t k q (spread p (corner_after_exchange p x above b q) (factors_after_exchange t b q) at_y) hq eq
      ∙ ap (λ (v : ℤ). t.factor k q *ℤ spread p (corner_after_exchange p x above b q) (factors_after_exchange t b q) at_y q +ℤ v) (rest_same p x t k q (pos (factors_after_exchange t b q).over) (spread p (corner_after_exchange p x above b q) (factors_after_exchange t b q) at_y) at_x (λ j l d g. next_other j d g) ∙ ap (λ (v : ℤ). v *ℤ rest_for p x t k q at_x) (over_is t b q))

  value_row : (k : ℕ) → x.basic k ≡ true → spread p x t at_x k ≡ t.factor k q *ℤ at_x q +ℤ rest_for p x t k q at_x
  value_row k e = spread_at_basic p x t at_x k e ∙ sum_before p x t k q at_x hq eq

  -- the value of q, and of each other basic variable, after the exchange
  pub next_q : next_at q ≡ sign (t.factor b q) *ℤ (t.factor b q *ℤ (pos t.over *ℤ at_x q) +ℤ pos t.over *ℤ (pos t.over *ℤ c (passed_bound p above b) -ℤ spread p x t at_x b))
  next_q = moved_q (unsigned_abs (t.factor b q)) t.over (sign (t.factor b q)) (t.factor b q) (c (passed_bound p above b)) (spread p x t at_x b) (at_x q) (rest_for p x t b q at_x) (next_at q) (unsigned_abs_some _ n) (unsigned_abs-sign (t.factor b q))
      (subst (λ (v : ℤ). pos t.over *ℤ v ≡ t.factor b q *ℤ next_at q +ℤ (sign (t.factor b q) *ℤ t.factor b q *ℤ pos t.over) *ℤ rest_for p x t b q at_x) (next_b ∙ ap (λ (v : ℤ). v *ℤ c (passed_bound p above b)) (over_is t b q)) (row_at b hb eb)) (value_row b eb)

  pub next_basic : (k : ℕ) → k < variables p → x.basic k ≡ true → next_at k ≡ sign (t.factor b q) *ℤ (t.factor b q *ℤ spread p x t at_x k +ℤ t.factor k q *ℤ (pos t.over *ℤ c (passed_bound p above b) -ℤ spread p x t at_x b))
  next_basic k h e = moved_other t.over (sign (t.factor b q)) (t.factor b q) (t.factor k q) (pos t.over *ℤ c (passed_bound p above b) -ℤ spread p x t at_x b) (at_x q) (spread p x t at_x k) (rest_for p x t k q at_x) (next_at q) (next_at k) f.positive next_q (row_at k h e) (value_row k e)
