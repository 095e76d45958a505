-- What numbers solve: intervals in which they lie, and rows of signed sums.
use Rattle.std.specs.Prelude.{◌≡◌, ℕ, ◌+◌, ◌*◌, ◌<◌, ◌≤◌, Bool, true, false, pos, List, [], ◌∷◌, Result, Ok, Err, length, map, slice_index_or}
use Rattle.std.specs.List.{AllByRecursion}
use Rattle.xc_forest.specs.Forests.{Contradicts, row_at}
use Rattle.xc_interval.specs.Intervals.{numbers_of, HasNoNumber, HasNumber}
use Rattle.xc_interval.specs.declared.ends.End.TheVariants.{Closed}
use Rattle.xc_interval.specs.declared.interval.Interval.{Interval}
use Rattle.xc_joint.specs.PointRanges.{AreRangesOf}
use Rattle.xc_joint.specs.Small.{closed_pairs}
use Rattle.xc_joint.specs.Widths.{IsWholeOver}
use Rattle.xc_joint.specs.declared.small.Halt.{Halt}
use Rattle.xc_joint.specs.declared.small.Halt.TheVariants.{Memory, Wide}
use Rattle.xc_joint.specs.declared.solving.Solution.{Solution}
use Rattle.xc_joint.specs.declared.solving.Solution.TheVariants.{Numbers, Contradiction}
use Rattle.xc_model.specs.Fraction.{Fraction, SameNumber, whole, neg_of, sum_of}
use Rattle.xc_model.specs.Parts.{Parts}
use Rattle.xc_model.specs.Ratio.{Ratio, fraction_of}
use Rattle.xc_system.specs.Forests.{IsNarrow}
use Rattle.xc_system.specs.Systems.{Constraints}
use Rattle.xc_system.specs.declared.types.Component.{Component}

-- interval p; that of 0 alone where there is none
abbrev pub interval_at : List (Interval Ratio) → ℕ → Interval Fraction
interval_at ranges p = slice_index_or (map numbers_of ranges) p (record { low = Closed (whole (pos 0)); high = Closed (whole (pos 0)) })

-- some number lies in each
abbrev pub HaveNumbers : List (Interval Ratio) → Type 0
HaveNumbers ranges = (p : ℕ) → p < length ranges → ¬ HasNoNumber (interval_at ranges p)

-- number p; 0 where there is none
abbrev pub number_at : List Ratio → ℕ → Fraction
number_at xs p = slice_index_or (map fraction_of xs) p (whole (pos 0))

-- x, or - x
abbrev pub signed_number : Bool → Fraction → Fraction
signed_number false x = x
signed_number true x = neg_of x

-- the signed sum of a row over the numbers of its points
abbrev pub number_total : List (ℕ × Bool) → (ℕ → Fraction) → Fraction
number_total [] z = whole (pos 0)
number_total (entry ∷ row) z = sum_of (signed_number entry.1 (z entry.0)) (number_total row z)

-- one number for each interval, which lies in it; and the sum of each row is 0
pub record NumbersSolve (rows : List (List (ℕ × Bool))) (ranges : List (Interval Ratio)) (xs : List Ratio) : Type 0 where
  pub each : length xs ≡ length ranges
  pub within : (p : ℕ) → p < length ranges → HasNumber (interval_at ranges p) (number_at xs p)
  pub met : (i : ℕ) → i < length rows → SameNumber (number_total (row_at rows i) (number_at xs)) (whole (pos 0))

-- the ranges are those of a component whose numbers leave room for their sums
pub record IsOfNarrow (ranges : List (Interval Parts)) : Type 0 where
  pub system : Constraints
  pub component : Component
  pub narrow : IsNarrow system component
  pub are : AreRangesOf system component ranges

-- over the scale of such a component, twice and with a factor of at most its number of points and 1, the numbers are whole
abbrev pub AreWhole : List (Interval Ratio) → List Ratio → Type 0
AreWhole ranges xs = (n : IsOfNarrow (map closed_pairs ranges)) → (factor : ℕ) × (factor ≤ length n.component.points + 1) × AllByRecursion (IsWholeOver (n.narrow.scale * 2 * factor)) xs

-- numbers solve the ranges and the rows, or multipliers contradict them; no operation passes
abbrev pub SolvesRanges : List (List (ℕ × Bool)) → List (Interval Ratio) → Result Solution Halt → Type 0
SolvesRanges rows ranges (Ok (Numbers xs)) = NumbersSolve rows ranges xs × AreWhole ranges xs
SolvesRanges rows ranges (Ok (Contradiction by ends)) = Contradicts rows (map closed_pairs ranges) by ends
SolvesRanges rows ranges (Err Memory) = Unit {0}
SolvesRanges rows ranges (Err (Wide operation)) = ⊥
