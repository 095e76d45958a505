-- What solves a problem, and what contradicts it.
use Rattle.std.specs.Prelude.{◌≡◌, ◌≢◌, ◌⊎◌, ℕ, ◌<◌, ◌==◌, ◌||◌, Bool, false, pos, ◌<ℤ◌, List, [], ◌∷◌, Some, length, map, slice_get, if◌then◌else◌, All, IsTrue}
use Rattle.std.specs.List.{list_any}
use Rattle.std.specs.List.Sorted.{IsStrictlySortedBy}
use Rattle.std.specs.Option.{option_map_or}
use Rattle.std.specs.Ordering.{nat_cmp}
use Rattle.xc_interval.specs.Ends.{value_of, is_open}
use Rattle.xc_interval.specs.Intervals.{numbers_of, HasNumber}
use Rattle.xc_interval.specs.declared.interval.Interval.{Interval}
use Rattle.xc_model.specs.Fraction.{Fraction, whole, sum_of, difference_of, product_of}
use Rattle.xc_model.specs.Ratio.{Ratio, fraction_of}
use Rattle.xc_corners.specs.Operations.{entries_of}
use Rattle.xc_corners.specs.declared.multipliers.Multipliers.{Multipliers}
use Rattle.xc_corners.specs.declared.problem.Problem.{Problem}

-- the sum of factor times number over what is listed
abbrev pub sum_over_lines : List (ℕ × Ratio) → (ℕ → Fraction) → Fraction
sum_over_lines [] z = whole (pos 0)
sum_over_lines (line ∷ lines) z = sum_of (product_of (fraction_of line.1) (z line.0)) (sum_over_lines lines z)

-- value j; 0 where there is none
abbrev pub value_at : List Ratio → ℕ → Fraction
value_at values j = option_map_or (λ value. fraction_of value) (slice_get values j) (whole (pos 0))

-- a value for each range, which lies in it, and not at an open end; and of each row the sum of weight times value is 0
pub record Solves (problem : Problem) (values : List Ratio) : Type 0 where
  pub each : length values ≡ length problem.ranges
  pub within : (j : ℕ) (range : Interval Ratio) → slice_get problem.ranges j ≡ Some range → HasNumber (numbers_of range) (value_at values j)
  pub met : (i : ℕ) → i < length problem.rows → (sum_over_lines (entries_of problem i) (value_at values)).num ≡ pos 0

-- ---- Multipliers add up to a combination: the sum of multiplier times (value - low end) over the low ends, of multiplier times
-- (high end - value) over the high ends, and of multiplier times the sum of a row over the rows. Values that solve the problem make
-- none of these negative.

-- 1 for range j, and 0 for any other
abbrev pub one_at : ℕ → ℕ → Fraction
one_at j k = if k == j then whole (pos 1) else whole (pos 0)

-- the low end of range j; 0 where there is none
abbrev pub low_at : Problem → ℕ → Fraction
low_at problem j = option_map_or (λ range. fraction_of (value_of range.low)) (slice_get problem.ranges j) (whole (pos 0))

-- and its high end
abbrev pub high_at : Problem → ℕ → Fraction
high_at problem j = option_map_or (λ range. fraction_of (value_of range.high)) (slice_get problem.ranges j) (whole (pos 0))

-- whether the low end of range j is open
abbrev pub is_low_open : Problem → ℕ → Bool
is_low_open problem j = option_map_or (λ range. is_open range.low) (slice_get problem.ranges j) false

-- and its high end
abbrev pub is_high_open : Problem → ℕ → Bool
is_high_open problem j = option_map_or (λ range. is_open range.high) (slice_get problem.ranges j) false

-- the coefficient of the value of range j in the combination
abbrev pub coefficient : Problem → Multipliers → ℕ → Fraction
coefficient problem m j = sum_of (sum_over_lines m.rows (λ i. sum_over_lines (entries_of problem i) (one_at j))) (difference_of (sum_over_lines m.lows (one_at j)) (sum_over_lines m.highs (one_at j)))

-- its constant
abbrev pub constant : Problem → Multipliers → Fraction
constant problem m = difference_of (sum_over_lines m.highs (high_at problem)) (sum_over_lines m.lows (low_at problem))

-- some listed end is open
abbrev pub lists_open : Problem → Multipliers → Bool
lists_open problem m = list_any (λ line. is_low_open problem line.0) m.lows || list_any (λ line. is_high_open problem line.0) m.highs

-- the constant is negative; or it is 0, while a listed end is open
abbrev pub IsShort : Problem → Multipliers → Type 0
IsShort problem m = ((constant problem m).num <ℤ pos 0) ⊎ (((constant problem m).num ≡ pos 0) × IsTrue (lists_open problem m))

-- the numbers are below n and ascend strictly
pub record AreListed (n : ℕ) (lines : List (ℕ × Ratio)) : Type 0 where
  pub ascend : IsStrictlySortedBy nat_cmp (map (λ line. line.0) lines)
  pub below : All (λ line. line.0 < n) lines

-- multipliers contradict the problem: they are listed by the numbers of its rows and ranges, those of rows are not 0 and those of ends
-- positive; no value counts in the combination, and its constant falls short of 0
pub record Contradicts (problem : Problem) (m : Multipliers) : Type 0 where
  pub rows : AreListed (length problem.rows) m.rows
  pub lows : AreListed (length problem.ranges) m.lows
  pub highs : AreListed (length problem.ranges) m.highs
  pub rows_count : All (λ line. line.1.num ≢ pos 0) m.rows
  pub lows_positive : All (λ line. pos 0 <ℤ line.1.num) m.lows
  pub highs_positive : All (λ line. pos 0 <ℤ line.1.num) m.highs
  pub cancels : (j : ℕ) → j < length problem.ranges → (coefficient problem m j).num ≡ pos 0
  pub short : IsShort problem m
