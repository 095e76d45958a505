-- The signs of numbers.
use Rattle.std.proofs.Common.{◌≡◌, ℤ, pos, ◌*ℤ◌, ◌<ℤ◌, sym, ap, ◌∙◌, arith}
use Rattle.std.proofs.lemmas.Int.{ints}
use Rattle.xc_model.proofs.Integers.{cancel, cancel_lt, scale_lt, mul_comm}
use Rattle.xc_model.proofs.Numbers.{den_positive, den_some}
use Rattle.xc_model.specs.Fraction.{Fraction, SameNumber}

-- numbers that are the same have one sign
pub zero_same : (x y : Fraction) → SameNumber x y → x.num ≡ pos 0 → y.num ≡ pos 0
zero_same x y h z =
    let e : y.num *ℤ pos x.den ≡ pos 0 *ℤ pos y.den = sym h.cross ∙ ap (λ (n : ℤ). n *ℤ pos y.den) z in
    cancel (pos x.den) y.num (pos 0) (den_some x) (omega (arith, ints, e, mul_comm (pos x.den) y.num))

pub negative_same : (x y : Fraction) → SameNumber x y → x.num <ℤ pos 0 → y.num <ℤ pos 0
negative_same x y h z =
    let e : x.num *ℤ pos y.den ≡ y.num *ℤ pos x.den = h.cross in
    let less : (pos y.den *ℤ x.num) <ℤ (pos y.den *ℤ pos 0) = scale_lt (pos y.den) x.num (pos 0) (den_positive y) z in
    cancel_lt (pos x.den) y.num (pos 0) (den_positive x) (omega (arith, ints, e, less, mul_comm (pos x.den) y.num, mul_comm (pos y.den) x.num))
