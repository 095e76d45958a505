-- One gap of real parts over one of tiny parts.
use Rattle.std.specs.Prelude.{ℤ, ◌+◌, ◌*◌, ◌-ℤ◌, ◌≤◌, List, Option, Result, IfSome, IsOkAnd, unsigned_abs}
use Rattle.std.specs.List.{AllByRecursion}
use Rattle.xc_frac.specs.declared.wide.Wide.{Wide}
use Rattle.xc_joint.specs.Widths.{Width, AreWithin, HasRoom, HaveParts, IsOverFactor, IsWholeOver}
use Rattle.xc_frac.specs.declared.delta.Delta.{Delta}
use Rattle.xc_interval.specs.declared.interval.Interval.{Interval}
use Rattle.xc_joint.specs.Small.{AreSmall, IsPositive, IsPositiveBound, IsUnder}
use Rattle.xc_model.specs.Fraction.{Fraction, IsBelow, difference_of, product_of}
use Rattle.xc_model.specs.Ratio.{Ratio, IsOver}

-- where both gaps are positive, s times the second is less than the first
abbrev pub KeepsGap : (greater lesser higher lower s : Fraction) → Type 0
KeepsGap greater lesser higher lower s = IsBelow lesser greater → IsBelow lower higher → IsBelow (product_of s (difference_of higher lower)) (difference_of greater lesser)

-- a positive bound: each positive number under it that is small enough for what is left is small enough for all
pub record IsBoundSoFar (bound : Option Ratio) (ranges : List (Interval Ratio)) (values : List (Delta Ratio)) (ranges_left : List (Interval Ratio)) (values_left : List (Delta Ratio)) : Type 0 where
  pub positive : IsPositiveBound bound
  pub under : (s : Fraction) → IsPositive s → IsUnder bound s → AreSmall ranges_left values_left s → AreSmall ranges values s

-- two tiny parts, of which one is that of an end
pub record AreTiny (w : Width) (higher lower : Ratio) : Type 0 where
  pub high : ℤ
  pub low : ℤ
  pub high_over : IsOver higher high 1
  pub low_over : IsOver lower low 1
  pub high_small : unsigned_abs high ≤ w.n + 1
  pub low_small : unsigned_abs low ≤ w.n + 1
  pub gap : unsigned_abs (high -ℤ low) ≤ w.n + 1

-- what an operation on values with room answers: it does not pass, and a bound is over d times a factor
abbrev pub IsBoundOver : Width → Result (Option Ratio) Wide → Type 0
IsBoundOver w result = IsOkAnd result (λ bound. IfSome bound (λ f. IsOverFactor w w.d f))

-- where all values have room, the bound so far is over d times a factor, and so is what is left
abbrev pub IsRoomSoFar : Option Ratio → List (Interval Ratio) → List (Delta Ratio) → List (Interval Ratio) → List (Delta Ratio) → Type 0
IsRoomSoFar bound ranges values ranges_left values_left = (w : Width) → HasRoom w → AreWithin w ranges values → IfSome bound (λ f. IsOverFactor w w.d f) × AreWithin w ranges_left values_left

-- where all values have room, the numbers so far are whole numbers over one denominator, and the values that are left have room
abbrev pub AreWholeSoFar : Ratio → List (Delta Ratio) → List (Delta Ratio) → List Ratio → Type 0
AreWholeSoFar small values left numbers = (w : Width) → HasRoom w → HaveParts w values → (o : IsOverFactor w (w.d * 2) small) → AllByRecursion (IsWholeOver (w.d * 2 * o.factor)) numbers × HaveParts w left
