-- Problems of ranges and rows: values are sought, one for each range and in it, of which each row's sum is 0.
use Rattle.std.specs.Prelude.{ℕ, ◌<◌, ◌^◌, pos, neg_ℤ, ℤ, ◌+ℤ◌, ◌*ℤ◌, List, [], ◌∷◌, length, slice_index_or, All, if◌then◌else◌, ◌==◌}
use Rattle.xc_interval.specs.Ends.{value_of, is_open}
use Rattle.xc_interval.specs.Intervals.{numbers_of, HasNoNumber}
use Rattle.xc_interval.specs.declared.ends.End.{End}
use Rattle.xc_interval.specs.declared.ends.End.TheVariants.{Closed}
use Rattle.xc_interval.specs.declared.interval.Interval.{Interval}
use Rattle.xc_model.specs.Parts.{WholeParts}
use Rattle.xc_corners.specs.Pairs.{◌≼◌}
use Rattle.xc_corners.specs.declared.problem.Problem.{Problem}

-- no range is empty, and each entry of a row names a range
pub record IsProblem (problem : Problem) : Type 0 where
  pub some : All (λ range. ¬ HasNoNumber (numbers_of range)) problem.ranges
  pub named : All (λ row. All (λ entry. entry.0 < length problem.ranges) row) problem.rows

-- there are few enough ranges and rows for their numbers
pub record IsSmallProblem (problem : Problem) : Type 0 where
  pub ranges : length problem.ranges < 2 ^ 31
  pub rows : length problem.rows < 2 ^ 31

-- A problem in whole numbers: the ends of its ranges are whole numbers over `unit`, and the weights of its rows over `scale`.
pub record WholeProblem : Type 0 where
  pub unit : ℕ
  pub scale : ℕ
  pub ranges : List (Interval ℤ)
  pub rows : List (List (ℕ × ℤ))

-- the bound that a low end gives, over u: a closed end e is (e, 0), and an open one (e, 1)
abbrev pub low_pair : ℕ → End ℤ → WholeParts
low_pair u e = record { real = value_of e; tiny = if is_open e then pos u else pos 0 }

-- and that of a high end: a closed end e is (e, 0), and an open one (e, -1)
abbrev pub high_pair : ℕ → End ℤ → WholeParts
high_pair u e = record { real = value_of e; tiny = if is_open e then neg_ℤ (pos u) else pos 0 }

-- unit and scale are positive, each entry names a range, and no range is empty
pub record IsWholeProblem (p : WholeProblem) : Type 0 where
  pub unit : 0 < p.unit
  pub scale : 0 < p.scale
  pub named : All (λ row. All (λ entry. entry.0 < length p.ranges) row) p.rows
  pub some : All (λ range. low_pair p.unit range.low ≼ high_pair p.unit range.high) p.ranges

-- the sum of weight times value over the entries of a row
abbrev pub total : List (ℕ × ℤ) → (ℕ → ℤ) → ℤ
total [] z = pos 0
total (entry ∷ entries) z = entry.1 *ℤ z entry.0 +ℤ total entries z

-- 1 at j, and 0 elsewhere
abbrev pub unit_at : ℕ → ℕ → ℤ
unit_at j k = if k == j then pos 1 else pos 0

-- the entries of row i
abbrev pub row_at : WholeProblem → ℕ → List (ℕ × ℤ)
row_at p i = slice_index_or p.rows i []

-- 0 alone
abbrev pub zero_range : Interval ℤ
zero_range = record { low = Closed (pos 0); high = Closed (pos 0) }
