-- Numbers with an infinitely small part as numbers: the small number stands for what is infinitely small.
use Rattle.std.specs.Prelude.{pos, negsuc, List, [], ◌∷◌, Option, Some, None, if◌then◌else◌}
use Rattle.xc_frac.specs.declared.delta.Delta.{Delta}
use Rattle.xc_interval.specs.Ends.{value_of, is_open}
use Rattle.xc_interval.specs.Intervals.{pairs_of}
use Rattle.xc_interval.specs.declared.ends.End.{End}
use Rattle.xc_interval.specs.declared.ends.End.TheVariants.{Closed}
use Rattle.xc_interval.specs.declared.interval.Interval.{Interval}
use Rattle.xc_model.specs.Fraction.{Fraction, SameNumber, IsBelow, whole, sum_of, difference_of, product_of}
use Rattle.xc_model.specs.Parts.{Parts}
use Rattle.xc_model.specs.Ratio.{Ratio, fraction_of}

-- what a low end stands for: where it is open, just above its number
abbrev pub low_pair : End Ratio → Parts
low_pair end = record { real = fraction_of (value_of end); tiny = if is_open end then whole (pos 1) else whole (pos 0) }

-- what a high end stands for: where it is open, just below its number
abbrev pub high_pair : End Ratio → Parts
high_pair end = record { real = fraction_of (value_of end); tiny = if is_open end then whole (negsuc 0) else whole (pos 0) }

-- the interval with these as its closed ends
abbrev pub closed_pairs : Interval Ratio → Interval Parts
closed_pairs i = record { low = Closed (low_pair i.low); high = Closed (high_pair i.high) }

-- the number that a pair is, where the small number is s
abbrev pub at : Parts → Fraction → Fraction
at x s = sum_of x.real (product_of x.tiny s)

-- s does not turn the order of two pairs round: where x is the greater in the real part and the lesser in the tiny part, s times the
-- tiny gap is less than the real gap
abbrev pub KeepsOrder : Parts → Parts → Fraction → Type 0
KeepsOrder y x s = IsBelow y.real x.real → IsBelow x.tiny y.tiny → IsBelow (product_of s (difference_of y.tiny x.tiny)) (difference_of x.real y.real)

-- s is small enough for a value between these ends
pub record IsSmallAt (range : Interval Ratio) (x : Parts) (s : Fraction) : Type 0 where
  pub low : KeepsOrder (low_pair range.low) x s
  pub high : KeepsOrder x (high_pair range.high) s

-- s is positive
abbrev pub IsPositive : Fraction → Type 0
IsPositive s = IsBelow (whole (pos 0)) s

-- s is less than a bound, where there is one
abbrev pub IsUnder : Option Ratio → Fraction → Type 0
IsUnder None s = Unit {0}
IsUnder (Some bound) s = IsBelow s (fraction_of bound)

-- a bound is positive, where there is one
abbrev pub IsPositiveBound : Option Ratio → Type 0
IsPositiveBound None = Unit {0}
IsPositiveBound (Some bound) = IsPositive (fraction_of bound)

-- a positive bound; each positive number under it is small enough
pub record Bounds (bound : Option Ratio) (IsSmall : Fraction → Type 0) : Type 0 where
  pub positive : IsPositiveBound bound
  pub under : (s : Fraction) → IsPositive s → IsUnder bound s → IsSmall s

-- ---- the values of all points

-- what a value stands for
abbrev pub pair : Delta Ratio → Parts
pair value = record { real = fraction_of value.real; tiny = fraction_of value.tiny }

-- s is small enough for each value between the ends of its range
abbrev pub AreSmall : List (Interval Ratio) → List (Delta Ratio) → Fraction → Type 0
AreSmall [] values s = Unit {0}
AreSmall (range ∷ ranges) [] s = Unit {0}
AreSmall (range ∷ ranges) (value ∷ values) s = IsSmallAt range (pair value) s × AreSmall ranges values s

-- the interval with what its ends stand for
abbrev pub pairs : Interval (Delta Ratio) → Interval Parts
pairs i = pairs_of pair i

-- the number that a value is, where the small number is s
abbrev pub IsAt : Fraction → Delta Ratio → Ratio → Type 0
IsAt s value x = SameNumber (fraction_of x) (at (pair value) s)

-- and the numbers of all values
abbrev pub AreAt : Fraction → List (Delta Ratio) → List Ratio → Type 0
AreAt s [] [] = Unit {0}
AreAt s [] (x ∷ xs) = ⊥
AreAt s (value ∷ values) [] = ⊥
AreAt s (value ∷ values) (x ∷ xs) = IsAt s value x × AreAt s values xs

-- the numbers of all values, with one positive small number that is small enough for each of them
pub record AreNumbersOf (ranges : List (Interval Ratio)) (values : List (Delta Ratio)) (xs : List Ratio) : Type 0 where
  pub small : Fraction
  pub positive : IsPositive small
  pub enough : AreSmall ranges values small
  pub at_small : AreAt small values xs
