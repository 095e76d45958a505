-- Least common multiples by the greatest common divisor.
use Rattle.std.proofs.Common.{◌≡◌, ◌/◌, ℕ, ◌*◌, ◌<◌, arith, ◌∙◌}
use Rattle.std.specs.Int.{IsGcd}
use Rattle.std.specs.Option.{SomeIff}
use Rattle.std.specs.Prelude.{◌^◌, ◌≤◌, Option, Some, None, IfNone}
use Prim.Native.Nat.{◌∣◌}
use native.Mathlib.Nat.{mul-div_cancel'}
use Rattle.xc_model.specs.Divisors.{IsLeastCommon}
use Rattle.xc_model.proofs.Gauss.{IsCoprime-over_gcd}
use Rattle.xc_model.proofs.LeastCommon.{least_common, least_common_unique}
use Rattle.xc_frac.proofs.ClearedTerms.{gcd_some}

quotient_times : (a g : ℕ) → g ∣ a → (a / g) * g ≡ a
quotient_times a g d =
    let swap : (a / g) * g ≡ g * (a / g) = omega arith in
    swap ∙ mul-div_cancel' g d

-- a times what b has beside their common factor
pub least_common_by_gcd : (a b g : ℕ) → 0 < b → IsGcd a b g → IsLeastCommon a b (a * (b / g))
least_common_by_gcd a b g some gcd =
    let positive : 0 < g = gcd_some a b g some gcd in
    let left : (a / g) * g ≡ a = quotient_times a g gcd.0 in
    let right : (b / g) * g ≡ b = quotient_times b g gcd.1 in
    least_common a b g (a / g) (b / g) positive left right (IsCoprime-over_gcd a b g (a / g) (b / g) gcd positive left right)

-- where the least common multiple is not answered, there is none below 2^128
pub least_common_wide : (o : Option ℕ) (a b n : ℕ) → SomeIff o (n < 2 ^ 128) n → IsLeastCommon a b n → IfNone o ((l : ℕ) → IsLeastCommon a b l → 2 ^ 128 ≤ l)
least_common_wide None a b n wide is = λ l common. rw (least_common_unique a b l n common is) (omega (arith, wide))
least_common_wide (Some m) a b n fits is = tt
