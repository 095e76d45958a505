-- A step of the code: the range of one interval.
use Rattle.std.specs.Prelude.{◌≡◌}
use Rattle.xc_interval.specs.Intervals.{frac_parts, numbers_of, pairs_of, HasNumber, HasNoPair}
use Rattle.xc_interval.specs.declared.interval.Interval.{Interval}
use Rattle.xc_interval.specs.declared.range.Range.{Range}
use Rattle.xc_interval.specs.declared.range.Range.TheVariants as range
use Rattle.xc_model.specs.Fraction.{Fraction}
use Rattle.xc_model.specs.Ratio.{Ratio}

-- the range has the numbers of the interval, or the interval has none
abbrev pub IsRangeBetween : Interval Ratio → Range → Type 0
IsRangeBetween met (range.Meets i) = (i ≡ met) × (¬ HasNoPair (pairs_of frac_parts met))
IsRangeBetween met range.Empty = (x : Fraction) → ¬ HasNumber (numbers_of met) x
IsRangeBetween met range.Wide = ⊥
