-- The corners of a problem (the bounded simplex method's basic solutions): variables and their bounds, solved forms, values.
use Rattle.std.specs.Prelude.{◌≡◌, ℕ, ◌+◌, ◌<◌, Bool, true, false, if◌then◌else◌, ◌==◌, List, length, slice_index_or, ℤ, pos, ◌*ℤ◌}
use Rattle.std.specs.List.{list_any}
use Rattle.xc_interval.specs.declared.interval.Interval.{Interval}
use Rattle.xc_model.specs.Parts.{WholeParts}
use Rattle.xc_corners.specs.Pairs.{◌≺◌, ◌≼◌, times, sum_below}
use Rattle.xc_corners.specs.Problems.{WholeProblem, low_pair, high_pair, total, row_at, zero_range}

-- how many variables there are: one for each range, which is its value, and after them one for each row, which is its sum
unfoldable pub variables : WholeProblem → ℕ
variables p = length p.ranges + length p.rows

-- the range of a variable: its own, and 0 alone for the sum of a row
abbrev pub range_of : WholeProblem → ℕ → Interval ℤ
range_of p j = slice_index_or p.ranges j zero_range

-- the low bound of a variable, over the problem's unit
unfoldable pub low_bound : WholeProblem → ℕ → WholeParts
low_bound p j = low_pair p.unit (range_of p j).low

-- and its high bound
unfoldable pub high_bound : WholeProblem → ℕ → WholeParts
high_bound p j = high_pair p.unit (range_of p j).high

-- the variables of rows are the sums of these
unfoldable pub AddUp : WholeProblem → (ℕ → ℤ) → Type 0
AddUp p z = (i : ℕ) → i < length p.rows → pos p.scale *ℤ z (length p.ranges + i) ≡ total (row_at p i) z

-- which variables are basic, and which of the others are on their high side
pub record Corner : Type 0 where
  pub basic : ℕ → Bool
  pub high : ℕ → Bool

-- a corner as it is told: its basic variables, and the others that are on their high side
pub record CornerLists : Type 0 where
  pub basic : List ℕ
  pub high : List ℕ

-- the corner that the lists tell
abbrev pub corner_of : CornerLists → Corner
corner_of lists = record { basic = λ j. list_any (λ k. k == j) lists.basic; high = λ j. list_any (λ k. k == j) lists.high }

-- factors, as whole numbers over one
pub record Factors : Type 0 where
  pub factor : ℕ → ℕ → ℤ
  pub over : ℕ

-- the sum for b over the variables that are not basic
unfoldable pub sum_for : WholeProblem → Corner → Factors → ℕ → (ℕ → ℤ) → ℤ
sum_for p x t b z = sum_below (variables p) (λ j. if x.basic j then pos 0 else t.factor b j *ℤ z j)

-- each basic variable is its sum
abbrev pub AreSums : WholeProblem → Corner → Factors → (ℕ → ℤ) → Type 0
AreSums p x t z = (b : ℕ) → b < variables p → x.basic b ≡ true → pos t.over *ℤ z b ≡ sum_for p x t b z

-- the factors of a solved form: numbers add up by the rows exactly where the basic variables are their sums over the others
pub record IsSolvedForm (p : WholeProblem) (x : Corner) (t : Factors) : Type 0 where
  pub positive : 0 < t.over
  pub sums : (z : ℕ → ℤ) → AddUp p z → AreSums p x t z
  pub rows : (z : ℕ → ℤ) → AreSums p x t z → AddUp p z

-- the bound of a variable's side
unfoldable pub bound : WholeProblem → Corner → ℕ → WholeParts
bound p x j = if x.high j then high_bound p j else low_bound p j

-- the numbers that have z at the variables that are not basic, and their sums at the basic ones, all times `over`
unfoldable pub spread : WholeProblem → Corner → Factors → (ℕ → ℤ) → ℕ → ℤ
spread p x t z j = if x.basic j then sum_for p x t j z else pos t.over *ℤ z j

-- the value of a variable, over the unit times `over`: the bound of its side, and for a basic one the sum of factor times value
unfoldable pub value : WholeProblem → Corner → Factors → ℕ → WholeParts
value p x t j = record {
  real = spread p x t (λ k. (bound p x k).real) j;
  tiny = spread p x t (λ k. (bound p x k).tiny) j;
}

-- the value lies between the bounds
abbrev pub IsWithin : WholeProblem → Corner → Factors → ℕ → Type 0
IsWithin p x t j = (times (pos t.over) (low_bound p j) ≼ value p x t j) × (value p x t j ≼ times (pos t.over) (high_bound p j))

-- it is below the low bound (false), or above the high one (true)
abbrev pub IsOutside : WholeProblem → Corner → Factors → Bool → ℕ → Type 0
IsOutside p x t false j = value p x t j ≺ times (pos t.over) (low_bound p j)
IsOutside p x t true j = times (pos t.over) (high_bound p j) ≺ value p x t j
