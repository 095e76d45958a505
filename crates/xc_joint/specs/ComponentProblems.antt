-- The problem of a component: the variables are its points by their places, each with the range between its tightest ends, and there is
-- a row for each of its equations.
use Rattle.std.specs.Prelude.{◌≡◌, ℕ, ◌<◌, List, Some, length, slice_index}
use Rattle.xc_corners.specs.declared.problem.Problem.{Problem}
use Rattle.xc_interval.specs.declared.interval.Interval.{Interval}
use Rattle.xc_joint.specs.Lists.{AreEach}
use Rattle.xc_model.specs.Ratio.{Ratio}
use Rattle.xc_system.specs.Spots.{HasTighter, IsFirstTightest}
use Rattle.xc_system.specs.Systems.{Constraints, equation_at, facts_of, range_at}
use Rattle.xc_system.specs.declared.types.Component.{Component}
use Rattle.xc_system.specs.declared.types.Entry.{Entry}
use Rattle.xc_system.specs.declared.types.Side.TheVariants.{Low, High}

-- the range of a point: from the first tightest low end of its facts to the first tightest high end
pub record IsTightestRange (s : Constraints) (p : ℕ) (range : Interval Ratio) : Type 0 where
  pub low_fact : ℕ
  pub high_fact : ℕ
  pub low_first : IsFirstTightest (HasTighter Low s.bounds) (facts_of s.bounds p) low_fact
  pub high_first : IsFirstTightest (HasTighter High s.bounds) (facts_of s.bounds p) high_fact
  pub low : Interval Ratio
  pub high : Interval Ratio
  pub low_known : range_at s.bounds low_fact ≡ Some low
  pub high_known : range_at s.bounds high_fact ≡ Some high
  pub low_is : range.low ≡ low.low
  pub high_is : range.high ≡ high.high

-- the place of an entry's point among these points, with the entry's weight
pub record IsWeightedPlace (points : List ℕ) (entry : Entry) (placed : ℕ × Ratio) : Type 0 where
  pub inside : placed.0 < length points
  pub there : slice_index points placed.0 ≡ entry.point
  pub weight : placed.1 ≡ entry.weight

-- the row of equation i: so for each of its entries, in order
abbrev pub IsWeightedRow : Constraints → List ℕ → ℕ → List (ℕ × Ratio) → Type 0
IsWeightedRow s points i row = AreEach (IsWeightedPlace points) (equation_at s.equations i).entries row

-- the problem of the component
pub record IsProblemOf (s : Constraints) (c : Component) (problem : Problem) : Type 0 where
  pub ranges : AreEach (IsTightestRange s) c.points problem.ranges
  pub rows : AreEach (IsWeightedRow s c.points) c.equations problem.rows
