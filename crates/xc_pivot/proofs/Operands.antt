-- Each number at a corner is one fraction, so an operation there has one result.
use Rattle.std.proofs.Common.{◌≡◌, ℕ, Bool, subst}
use Rattle.xc_model.proofs.Results.{over_one, product_one, quotient_one}
use Rattle.xc_corners.specs.Corners.{Corner, Factors}
use Rattle.xc_corners.specs.Operations.{Gives, IsGap, IsStep, IsMove}
use Rattle.xc_corners.specs.Problems.{WholeProblem}
use Rattle.xc_frac.specs.declared.wide.Op.TheVariants.{Add, Sub, Mul, Div}
use Rattle.xc_model.specs.Fraction.{Fraction, SameNumber, difference_of, sum_of}
use Rattle.xc_model.specs.Ratio.{Ratio, fraction_of}
use Rattle.xc_model.proofs.LowestTerms.{one_lowest}
use Rattle.xc_model.proofs.Numbers.{same-sym, same-trans}

result_one : (r s : Ratio) (n : Fraction) → SameNumber (fraction_of r) n → SameNumber (fraction_of s) n → r ≡ s
result_one r s n h l = one_lowest r s (same-trans (fraction_of r) n (fraction_of s) h (same-sym (fraction_of s) n l))

pub sum_one : (f g r s : Ratio) → Gives Add f g r → Gives Add f g s → r ≡ s
sum_one f g r s h l = result_one r s (sum_of (fraction_of f) (fraction_of g)) h l

pub difference_one : (f g r s : Ratio) → Gives Sub f g r → Gives Sub f g s → r ≡ s
difference_one f g r s h l = result_one r s (difference_of (fraction_of f) (fraction_of g)) h l

module _ (p : WholeProblem) (x : Corner) (t : Factors) (above : Bool) (b q : ℕ) (c : Bool) where
  pub gap_one : (g h : Ratio) → IsGap p x t above b c g → IsGap p x t above b c h → g ≡ h
  gap_one g h a o =
      let limit = over_one a.limit o.limit _ _ a.is_limit o.is_limit in
      let value = over_one a.value o.value _ _ a.is_value o.is_value in
      difference_one o.limit o.value g h (subst (λ (f : Ratio). Gives Sub f o.value g) limit (subst (λ (f : Ratio). Gives Sub a.limit f g) value a.gives)) o.gives

  pub step_one : (s r : Ratio) → IsStep p x t above b q c s → IsStep p x t above b q c r → s ≡ r
  step_one s r a o =
      let gap = gap_one a.gap o.gap a.is_gap o.is_gap in
      let pivot = over_one a.pivot o.pivot _ _ a.is_pivot o.is_pivot in
      quotient_one o.gap o.pivot s r (subst (λ (f : Ratio). Gives Div f o.pivot s) gap (subst (λ (f : Ratio). Gives Div a.gap f s) pivot a.gives)) o.gives

  pub move_one : (k : ℕ) (m n : Ratio) → IsMove p x t above b q k c m → IsMove p x t above b q k c n → m ≡ n
  move_one k m n a o =
      let factor = over_one a.factor o.factor _ _ a.is_factor o.is_factor in
      let step = step_one a.step o.step a.is_step o.is_step in
      product_one o.factor o.step m n (subst (λ (f : Ratio). Gives Mul f o.step m) factor (subst (λ (f : Ratio). Gives Mul a.factor f m) step a.gives)) o.gives
