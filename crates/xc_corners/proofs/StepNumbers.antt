-- The values after an exchange are the exact results of the operations on those before it.
use Rattle.std.proofs.Common.{◌≡◌, ◌≢◌, ℕ, ◌*◌, ◌<◌, Bool, true, false, ℤ, pos, ◌+ℤ◌, ◌-ℤ◌, ◌*ℤ◌, neg_ℤ, refl, sym, ap, ◌∙◌, arith}
use Rattle.std.specs.Prelude.{unsigned_abs}
use Rattle.std.proofs.lemmas.Int.{ints}
use Rattle.std.proofs.Math.Nat.{mul-pos}
use Rattle.xc_frac.specs.declared.wide.Op.TheVariants.{Add}
use Rattle.xc_model.specs.Ratio.{Ratio, fraction_of, IsOver}
use Rattle.xc_model.proofs.Integers.{ring, unsigned_abs_some}
use Rattle.xc_model.proofs.NumbersOver.{over_number, number_over, number_over-same, neg_number, sum_number, quotient_number}
use Rattle.xc_model.proofs.Rescaled.{over_same_number, over_same_den, over_scaled}
use Rattle.xc_corners.specs.Choices.{corner_after_exchange}
use Rattle.xc_corners.specs.Corners.{variables, Corner, Factors, IsSolvedForm, value, bound, spread}
use Rattle.xc_corners.specs.Operations.{Gives, IsValuePart, IsGap, IsStep, IsMove, part, passed_bound}
use Rattle.xc_corners.specs.Problems.{WholeProblem}
use Rattle.xc_corners.specs.Tables.{factors_after_exchange, sign}
use Rattle.xc_corners.proofs.ExchangeNumbers.{sum_gives, product_gives}
use Rattle.xc_corners.proofs.NextValues.{next_at, next_q, next_basic, next_b, next_other, at_x, at_y}
use Rattle.xc_corners.proofs.Pivoting.{unsigned_abs-sign}
use Rattle.xc_corners.proofs.Values.{spread_at_other}

-- a part of a value is the spread of that part of the bounds
pub value_part : (p : WholeProblem) (x : Corner) (t : Factors) (c : Bool) (j : ℕ) → part c (value p x t j) ≡ spread p x t (λ k. part c (bound p x k)) j
unfolding value
value_part p x t false j = refl
value_part p x t true j = refl

gap_cross : (w l v : ℤ) → w *ℤ l +ℤ neg_ℤ v ≡ w *ℤ l -ℤ v
gap_cross w l v = omega (arith, ints)

step_cross : (s f w a u g : ℤ) → a ≡ s *ℤ f → ((s *ℤ (w *ℤ g)) *ℤ f) *ℤ (w *ℤ u) ≡ g *ℤ (((a *ℤ w) *ℤ u) *ℤ w)
step_cross s f w a u g e = rw e (simp ring)

move_cross : (s w c k g : ℤ) → (s *ℤ (k *ℤ g)) *ℤ (w *ℤ c) ≡ (k *ℤ (s *ℤ (w *ℤ g))) *ℤ c
move_cross s w c k g = simp ring

entering_cross : (s f w a y g : ℤ) → a ≡ s *ℤ f → a *ℤ (w *ℤ y) +ℤ s *ℤ (w *ℤ g) ≡ s *ℤ (f *ℤ (w *ℤ y) +ℤ w *ℤ g)
entering_cross s f w a y g e = rw e (simp ring (omega (arith, ints)))

basic_cross : (s f a v k g : ℤ) → a ≡ s *ℤ f → a *ℤ v +ℤ s *ℤ (k *ℤ g) ≡ s *ℤ (f *ℤ v +ℤ k *ℤ g)
basic_cross s f a v k g e = rw e (simp ring (omega (arith, ints)))

other_cross : (a w y : ℤ) → a *ℤ (w *ℤ y) ≡ (a *ℤ w) *ℤ y
other_cross a w y = simp ring

regroup : (a w u : ℕ) → a * (w * u) ≡ (a * w) * u
regroup a w u = omega arith

module _ (p : WholeProblem) (x : Corner) (t : Factors) (solved : IsSolvedForm p x t) (above : Bool) (b q : ℕ) (hb : b < variables p) (hq : q < variables p) (eb : x.basic b ≡ true) (eq : x.basic q ≡ false)
    (some : t.factor b q ≢ pos 0) (unit : 0 < p.unit) (c : Bool) where
  size : pos (unsigned_abs (t.factor b q)) ≡ sign (t.factor b q) *ℤ t.factor b q
  size = unsigned_abs-sign (t.factor b q)

  abbrev new_over : ℕ
  new_over = unsigned_abs (t.factor b q) * t.over

  new_positive : 0 < unsigned_abs (t.factor b q) * t.over
  new_positive = mul-pos (unsigned_abs_some _ some) solved.positive

  new_den_positive : 0 < (unsigned_abs (t.factor b q) * t.over) * p.unit
  new_den_positive = mul-pos new_positive unit

  -- the gap, over the old denominator times the unit
  abbrev gap : ℤ
  gap = pos t.over *ℤ part c (passed_bound p above b) -ℤ part c (value p x t b)

  gap_over : (g : Ratio) → IsGap p x t above b c g → IsOver g gap (t.over * p.unit)
  gap_over g o = over_same_number g _ _ _
      (number_over g _ _ (number_over-same _ (fraction_of g) _ _ o.gives (sum_number _ _ _ _ (t.over * p.unit)
      (over_number o.limit _ _ (over_scaled o.limit _ p.unit t.over solved.positive o.is_limit)) (neg_number _ _ _ (over_number o.value _ _ o.is_value)))))
      (gap_cross (pos t.over) (part c (passed_bound p above b)) (part c (value p x t b)))

  step_over : (s : Ratio) → IsStep p x t above b q c s → IsOver s (sign (t.factor b q) *ℤ (pos t.over *ℤ gap)) ((unsigned_abs (t.factor b q) * t.over) * p.unit)
  step_over s o = number_over s _ _ (quotient_number (fraction_of o.gap) (fraction_of o.pivot) gap (t.factor b q) (sign (t.factor b q) *ℤ (pos t.over *ℤ gap)) (t.over * p.unit) t.over ((unsigned_abs (t.factor b q) * t.over) * p.unit)
      (over_number o.gap _ _ (gap_over o.gap o.is_gap)) (over_number o.pivot _ t.over o.is_pivot)
      (record { positive = new_den_positive; cross = step_cross (sign (t.factor b q)) (t.factor b q) (pos t.over) (pos (unsigned_abs (t.factor b q))) (pos p.unit) gap size }) (fraction_of s) o.gives)

  move_over : (k : ℕ) (m : Ratio) → IsMove p x t above b q k c m → IsOver m (sign (t.factor b q) *ℤ (t.factor k q *ℤ gap)) ((unsigned_abs (t.factor b q) * t.over) * p.unit)
  move_over k m o = product_gives o.factor o.step m (t.factor k q) _ _ t.over _ ((unsigned_abs (t.factor b q) * t.over) * p.unit) o.is_factor (step_over o.step o.is_step)
      (record { positive = new_den_positive; cross = move_cross (sign (t.factor b q)) (pos t.over) (pos ((unsigned_abs (t.factor b q) * t.over) * p.unit)) (t.factor k q) gap }) o.gives

  -- a value at x, over the new denominator
  value_over : (j : ℕ) (v : Ratio) → IsValuePart p x t c j v → IsOver v (pos (unsigned_abs (t.factor b q)) *ℤ part c (value p x t j)) ((unsigned_abs (t.factor b q) * t.over) * p.unit)
  value_over j v h = over_same_den v _ _ _ (over_scaled v _ (t.over * p.unit) (unsigned_abs (t.factor b q)) (unsigned_abs_some _ some) h) (regroup (unsigned_abs (t.factor b q)) t.over p.unit)

  abbrev next : ℕ → ℤ
  next j = part c (value p (corner_after_exchange p x above b q) (factors_after_exchange t b q) j)

  value_b : part c (value p x t b) ≡ spread p x t (λ k. part c (bound p x k)) b
  value_b = value_part p x t c b

  next_is : (j : ℕ) → next j ≡ next_at p x t solved above b q hb hq eb eq some (part c) j
  unfolding next_at at_y
  next_is j = value_part p (corner_after_exchange p x above b q) (factors_after_exchange t b q) c j

  pub entering_exact : (v s r : Ratio) → IsValuePart p x t c q v → IsStep p x t above b q c s → Gives Add v s r → IsValuePart p (corner_after_exchange p x above b q) (factors_after_exchange t b q) c q r
  unfolding factors_after_exchange at_x
  entering_exact v s r h o g = over_same_number r _ _ _ (sum_gives v s r _ _ _ (value_over q v h) (step_over s o) g)
      (ap (λ (z : ℤ). pos (unsigned_abs (t.factor b q)) *ℤ z +ℤ sign (t.factor b q) *ℤ (pos t.over *ℤ gap)) (value_part p x t c q ∙ spread_at_other p x t (λ k. part c (bound p x k)) q eq)
      ∙ entering_cross (sign (t.factor b q)) (t.factor b q) (pos t.over) (pos (unsigned_abs (t.factor b q))) (part c (bound p x q)) gap size
      ∙ ap (λ (z : ℤ). sign (t.factor b q) *ℤ (t.factor b q *ℤ (pos t.over *ℤ part c (bound p x q)) +ℤ pos t.over *ℤ (pos t.over *ℤ part c (passed_bound p above b) -ℤ z))) value_b
      ∙ sym (next_q p x t solved above b q hb hq eb eq some (part c)) ∙ sym (next_is q))

  pub basic_exact : (k : ℕ) (v m r : Ratio) → k < variables p → x.basic k ≡ true → IsValuePart p x t c k v → IsMove p x t above b q k c m → Gives Add v m r
      → IsValuePart p (corner_after_exchange p x above b q) (factors_after_exchange t b q) c k r
  unfolding factors_after_exchange at_x
  basic_exact k v m r hk ek h o g = over_same_number r _ _ _ (sum_gives v m r _ _ _ (value_over k v h) (move_over k m o) g)
      (basic_cross (sign (t.factor b q)) (t.factor b q) (pos (unsigned_abs (t.factor b q))) (part c (value p x t k)) (t.factor k q) gap size
      ∙ ap (λ (z : ℤ). sign (t.factor b q) *ℤ (t.factor b q *ℤ z +ℤ t.factor k q *ℤ gap)) (value_part p x t c k)
      ∙ ap (λ (z : ℤ). sign (t.factor b q) *ℤ (t.factor b q *ℤ spread p x t (λ j. part c (bound p x j)) k +ℤ t.factor k q *ℤ (pos t.over *ℤ part c (passed_bound p above b) -ℤ z))) value_b
      ∙ sym (next_basic p x t solved above b q hb hq eb eq some (part c) k hk ek) ∙ sym (next_is k))

  pub leaving_exact : (f : Ratio) → IsOver f (part c (passed_bound p above b)) p.unit → IsValuePart p (corner_after_exchange p x above b q) (factors_after_exchange t b q) c b f
  unfolding factors_after_exchange
  leaving_exact f h = over_same_number f _ _ _ (over_scaled f _ p.unit (unsigned_abs (t.factor b q) * t.over) new_positive h)
      (sym (next_b p x t solved above b q hb hq eb eq some (part c)) ∙ sym (next_is b))

  pub other_exact : (j : ℕ) (v : Ratio) → x.basic j ≡ false → (j ≡ q → ⊥) → IsValuePart p x t c j v → IsValuePart p (corner_after_exchange p x above b q) (factors_after_exchange t b q) c j v
  unfolding factors_after_exchange at_x
  other_exact j v e n h = over_same_number v _ _ _ (value_over j v h)
      (ap (λ (z : ℤ). pos (unsigned_abs (t.factor b q)) *ℤ z) (value_part p x t c j ∙ spread_at_other p x t (λ k. part c (bound p x k)) j e)
      ∙ other_cross (pos (unsigned_abs (t.factor b q))) (pos t.over) (part c (bound p x j))
      ∙ sym (next_other p x t solved above b q hb hq eb eq some (part c) j e n) ∙ sym (next_is j))
