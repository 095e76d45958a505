-- The problem of given fractions, in whole numbers.
use Rattle.std.specs.Prelude.{ℕ, ◌*◌, ◌/◌, ℤ, pos, ◌*ℤ◌, List, [], ◌∷◌, ◌++◌, map, unsigned_abs}
use Rattle.xc_interval.specs.Ends.{value_of}
use Rattle.xc_interval.specs.Intervals.{between}
use Rattle.xc_interval.specs.declared.interval.Interval.{Interval}
use Rattle.xc_model.specs.Ratio.{Ratio}
use Rattle.xc_corners.specs.Problems.{WholeProblem}
use Rattle.xc_corners.specs.declared.problem.Problem.{Problem}

-- the product of the denominators
abbrev pub product_of_denominators : List Ratio → ℕ
product_of_denominators [] = 1
product_of_denominators (f ∷ fs) = unsigned_abs f.den * product_of_denominators fs

-- d times f, where d is a multiple of its denominator
abbrev pub times_common : ℕ → Ratio → ℤ
times_common d f = f.num *ℤ pos (d / unsigned_abs f.den)

-- the values of all ends
abbrev pub ends_of : List (Interval Ratio) → List Ratio
ends_of [] = []
ends_of (range ∷ ranges) = value_of range.low ∷ value_of range.high ∷ ends_of ranges

-- the weights of all entries
abbrev pub weights_of : List (List (ℕ × Ratio)) → List Ratio
weights_of [] = []
weights_of (row ∷ rows) = map (λ entry. entry.1) row ++ weights_of rows

-- ends over the product of their denominators, and weights over that of theirs
unfoldable pub whole_problem : Problem → WholeProblem
whole_problem problem = record {
  unit = product_of_denominators (ends_of problem.ranges);
  scale = product_of_denominators (weights_of problem.rows);
  ranges = map (between (times_common (product_of_denominators (ends_of problem.ranges)))) problem.ranges;
  rows = map (map (λ entry. (entry.0, times_common (product_of_denominators (weights_of problem.rows)) entry.1))) problem.rows;
}
