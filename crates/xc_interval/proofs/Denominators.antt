-- Common denominators, as they are found end by end.
use Rattle.std.proofs.Common.{◌≡◌, ℕ, zero, suc, ◌+◌, ◌*◌, ◌/◌, ◌%◌, ◌<◌, ◌≤◌, ◌^◌, Option, Some, None, IfSome, IfNone, refl, ◌∙◌, arith, lit<}
use Rattle.std.specs.Int.{IsGcd}
use Rattle.std.specs.Prelude.{unsigned_abs}
use Rattle.std.proofs.lemmas.Nat.{mod_below}
use Rattle.std.proofs.Math.Nat.{mul-pos}
use Rattle.std.proofs.lemmas.Nat.Gcd.{IsGcd-from_zero, IsGcd-from_mod, dvd_trans, le_of_dvd}
use Prim.Native.Nat.{◌∣◌}
use native.Mathlib.Nat.{dvd-mul_right, dvd-mul_left, pos_of_dvd_of_pos, mul-div_cancel'}
use Rattle.xc_interval.specs.Ends.{value_of}
use Rattle.xc_interval.specs.Laws.{HaveScales, ScalesGrow}
use Rattle.xc_interval.specs.Scales.{IsMultipleOf, IsNoneBelow}
use Rattle.xc_interval.specs.declared.range.Range.TheVariants as range
use Rattle.xc_model.specs.Divisors.{IsLeastCommon}
use Rattle.xc_model.specs.Fraction.{unsigned_abs_pos}
use Rattle.xc_model.specs.Ratio.{Ratio}
use Rattle.xc_model.proofs.Gauss.{IsCoprime-over_gcd}
use Rattle.xc_model.proofs.LeastCommon.{least_common}

-- ---- least common multiples

common_positive : (a b l : ℕ) → 0 < a → 0 < b → IsLeastCommon a b l → 0 < l
common_positive a b l p q h = pos_of_dvd_of_pos (h.least (a * b) (dvd-mul_right a b) (dvd-mul_left b a)) (mul-pos p q)

multiple_of_common : (a b l : ℕ) → 0 < a → 0 < b → IsLeastCommon a b l → IsMultipleOf a (λ m. b ∣ m) l
multiple_of_common a b l p q h = record {
  positive = common_positive a b l p q h;
  tells = λ m. (λ d. (dvd_trans a h.left d, dvd_trans b h.right d), λ both. h.least m both.0 both.1);
}

pub multiple_if_common : (a b : ℕ) (o : Option ℕ) → 0 < a → 0 < b → IfSome o (IsLeastCommon a b) → IfSome o (IsMultipleOf a (λ m. b ∣ m))
multiple_if_common a b None p q h = tt
multiple_if_common a b (Some l) p q h = multiple_of_common a b l p q h

-- numbers have a greatest common divisor, and positive ones a least common multiple
gcd_exists : (fuel a b : ℕ) → b < fuel → (g : ℕ) × IsGcd a b g
gcd_exists zero a b h = absurd (omega (arith, h))
gcd_exists (suc f) a zero h = (a, IsGcd-from_zero a zero refl)
gcd_exists (suc f) a (suc k) h =
    let r = gcd_exists f (suc k) (a % suc k) (omega (arith, h, mod_below a (suc k))) in
    (r.0, IsGcd-from_mod a (suc k) r.0 r.1)

quotient_times : (a g : ℕ) → g ∣ a → (a / g) * g ≡ a
quotient_times a g d =
    let swap : (a / g) * g ≡ g * (a / g) = omega arith in
    swap ∙ mul-div_cancel' g d

common_exists : (a b : ℕ) → 0 < b → (n : ℕ) × IsLeastCommon a b n
common_exists a b some =
    let found = gcd_exists (b + 1) a b (omega arith) in
    let g : ℕ = found.0 in
    let gcd : IsGcd a b g = found.1 in
    let positive : 0 < g = pos_of_dvd_of_pos gcd.1 some in
    let left : (a / g) * g ≡ a = quotient_times a g gcd.0 in
    let right : (b / g) * g ≡ b = quotient_times b g gcd.1 in
    (a * (b / g), least_common a b g (a / g) (b / g) positive left right (IsCoprime-over_gcd a b g (a / g) (b / g) gcd positive left right))

pub none_if_common : (a b : ℕ) (o : Option ℕ) → 0 < b → IfNone o ((l : ℕ) → IsLeastCommon a b l → 2 ^ 128 ≤ l) → IfNone o (IsNoneBelow a (λ m. b ∣ m))
none_if_common a b None q wide =
    let n = common_exists a b q in
    λ m some left right. omega (arith, wide n.0 n.1, le_of_dvd some (n.1.least m left right))
none_if_common a b (Some l) q wide = tt

-- ---- two denominators, one after the other

pub both_multiples : (P Q : ℕ → Type 0) (d l : ℕ) → IsMultipleOf d P l → (o : Option ℕ) → IfSome o (IsMultipleOf l Q) → IfSome o (IsMultipleOf d (λ m. P m × Q m))
both_multiples P Q d l one None two = tt
both_multiples P Q d l one (Some n) two = record {
  positive = two.positive;
  tells = λ m. (
    λ h. let second = (two.tells m).0 h in let first = (one.tells m).0 second.0 in (first.0, (first.1, second.1)),
    λ h. (two.tells m).1 ((one.tells m).1 (h.0, h.1.0), h.1.1),
  );
}

pub none_of_second : (P Q : ℕ → Type 0) (d l : ℕ) → IsMultipleOf d P l → (o : Option ℕ) → IfNone o (IsNoneBelow l Q) → IfNone o (IsNoneBelow d (λ m. P m × Q m))
none_of_second P Q d l one None none = λ m some h both. none m some ((one.tells m).1 (h, both.0)) both.1
none_of_second P Q d l one (Some n) none = tt

pub none_of_first : (P Q : ℕ → Type 0) (d : ℕ) → IsNoneBelow d P → IsNoneBelow d (λ m. P m × Q m)
none_of_first P Q d none = λ m some h both. none m some h both.0

-- ---- ranges

den_some : (x : Ratio) → 0 < unsigned_abs x.den
den_some x = unsigned_abs_pos x.den x.lowest.positive

pub have_scales : HaveScales
have_scales range.Wide = (1, (lit< tt, tt))
have_scales range.Empty = (1, (lit< tt, tt))
have_scales (range.Meets i) =
    let low : ℕ = unsigned_abs (value_of i.low).den in
    let high : ℕ = unsigned_abs (value_of i.high).den in
    (low * high, (mul-pos (den_some (value_of i.low)) (den_some (value_of i.high)), (dvd-mul_right low high, dvd-mul_left high low)))

pub scales_grow : ScalesGrow
scales_grow range.Wide d m h on = tt
scales_grow range.Empty d m h on = tt
scales_grow (range.Meets i) d m h on = (dvd_trans (unsigned_abs (value_of i.low).den) on.0 h, dvd_trans (unsigned_abs (value_of i.high).den) on.1 h)
