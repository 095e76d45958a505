-- The interval of a fact by its value and its decimals alone (Calculations 1.1).
use Rattle.std.specs.Prelude.{ℕ, ℤ, ◌<◌, Option, Some, None, ◌↔◌}
use Rattle.xc_decimal.specs.Shortest.{Shortest}
use Rattle.xc_interval.specs.Intervals.{frac_parts, numbers_of, pairs_of, HasNumber, HasNoPair}
use Rattle.xc_interval.specs.declared.interval.Interval.{Interval}
use Rattle.xc_interval.specs.declared.mode.Mode.{Mode}
use Rattle.xc_model.specs.Ratio.{Ratio}
use Rattle.xc_points.specs.Facts.{ValueAdmits, IsWideValue}
use Rattle.xc_report.specs.declared.reports.Reading.{Reading}
use Rattle.xc_report.specs.declared.reports.Reading.TheVariants as read

-- the interval has exactly the numbers for which a value with these decimals may stand, where it is not wide
pub record IsIntervalOfValue (mode : Mode) (decimals : Option ℤ) (value : Reading) (i : Interval Ratio) : Type 0 where
  pub narrow : ¬ IsWideValue mode decimals value
  pub numbers : (p : ℤ) (q : ℕ) (positive : 0 < q) → ValueAdmits mode decimals value p q ↔ HasNumber (numbers_of i) (record { num = p; den = q; positive = positive })
  pub some : ¬ HasNoPair (pairs_of frac_parts i)

-- the interval of a value, which has none exactly where it is wide
abbrev pub AreEndsOfValue : Mode → Option ℤ → Reading → Option (Interval Ratio) → Type 0
AreEndsOfValue mode decimals value (Some i) = IsIntervalOfValue mode decimals value i
AreEndsOfValue mode decimals value None = IsWideValue mode decimals value

-- the interval of a number
abbrev pub AreEndsOfNumber : Mode → Option ℤ → Shortest → Option (Interval Ratio) → Type 0
AreEndsOfNumber mode decimals number ends = AreEndsOfValue mode decimals (read.Number number) ends
