-- What follows from the definitions.
use Rattle.std.specs.Prelude.{◌≡◌, ℕ, ◌<◌, Bool, List, Ok, Some, length, map, slice_get}
use Rattle.xc_corners.specs.Answers.{Solves as SolvesProblem}
use Rattle.xc_corners.specs.declared.problem.Problem.{Problem}
use Rattle.xc_forest.specs.Forests.{HasRoom, IsSignedSum, Solves, value_at as parts_at}
use Rattle.xc_frac.specs.declared.delta.Delta.{Delta}
use Rattle.xc_frac.specs.declared.wide.Op.{Op}
use Rattle.xc_frac.specs.declared.wide.Wide.{Wide}
use Rattle.xc_interval.specs.Intervals.{numbers_of, HasNumber, HasPair}
use Rattle.xc_interval.specs.declared.interval.Interval.{Interval}
use Rattle.xc_joint.specs.Answers.{AreValuesOf}
use Rattle.xc_joint.specs.Causes.{HasNoWide}
use Rattle.xc_joint.specs.ComponentProblems.{IsProblemOf}
use Rattle.xc_joint.specs.PointRanges.{AreRangesOf}
use Rattle.xc_joint.specs.Small.{at, closed_pairs, pair, AreNumbersOf, IsPositive, IsSmallAt}
use Rattle.xc_joint.specs.Solved.{AreWhole, NumbersSolve}
use Rattle.xc_joint.specs.Lists.{AreEach}
use Rattle.xc_joint.specs.Steps.OneForest.{AreRowsOf, IsBounded}
use Rattle.xc_joint.specs.Widths.{Width, AreWithin, HasRoom as HasSmallRoom}
use Rattle.xc_model.specs.Fraction.{Fraction}
use Rattle.xc_model.specs.Parts.{Parts}
use Rattle.xc_model.specs.Ratio.{Ratio}
use Rattle.xc_system.specs.Components.{IsComponent}
use Rattle.xc_system.specs.Forests.{IsNarrow, IsNarrowForest, total_reach}
use Rattle.xc_lists.specs.Members.{IsIn}
use Rattle.xc_system.specs.Systems.{Constraints, equation_at}
use Rattle.xc_system.specs.declared.types.Component.{Component}
use Rattle.xc_verify.specs.Feasible.{equation_terms}
use Rattle.xc_verify.specs.Sums.{IsSumOf}

-- a pair between the ends as closed ones is, with a positive number that is small enough, a number of the interval
abbrev pub SmallSolves : Type 0
SmallSolves = (range : Interval Ratio) (x : Parts) (s : Fraction) → HasPair (closed_pairs range) x → IsPositive s → IsSmallAt range x s → HasNumber (numbers_of range) (at x s)

-- where values solve rows and the ranges with closed ends, their numbers solve the rows and the ranges, open or closed
abbrev pub NumbersOfSolutionsSolve : Type 0
NumbersOfSolutionsSolve = (rows : List (List (ℕ × Bool))) (ranges : List (Interval Ratio)) (values : List (Delta Ratio)) (xs : List Ratio) → Solves rows (map closed_pairs ranges) (map pair values) → AreNumbersOf ranges values xs → NumbersSolve rows ranges xs

-- over the ranges of a component whose numbers leave room for their sums, no sum of two signed sums passes, and no difference
abbrev pub NarrowForestsHaveRoom : {E : Type 0} → (E → Parts) → (Op → E → E → Wide → Type 0) → Type 0
NarrowForestsHaveRoom parts passes = (s : Constraints) (c : Component) (ranges : List (Interval Parts)) → IsNarrow s c → AreRangesOf s c ranges → HasRoom parts passes ranges

-- the width of a component whose numbers leave room for their sums
abbrev pub width_of : (s : Constraints) (c : Component) → IsNarrow s c → Width
width_of s c narrow = record { d = narrow.scale; r = total_reach s c narrow.scale; n = length c.points }

-- values that are signed sums of the ends of such a component leave room for the small number
abbrev pub NarrowForestsHaveNumbers : Type 0
NarrowForestsHaveNumbers = (s : Constraints) (c : Component) (ranges : List (Interval Ratio)) (values : List (Delta Ratio)) (narrow : IsNarrow s c) → AreRangesOf s c (map closed_pairs ranges) → ((p : ℕ) → p < length ranges → IsSignedSum (map closed_pairs ranges) (parts_at (map pair values) p)) → (0 < (width_of s c narrow).d) × HasSmallRoom (width_of s c narrow) × AreWithin (width_of s c narrow) ranges values

-- numbers that solve the ranges and the rows of a component are values of it
abbrev pub NumbersAreValues : Type 0
NumbersAreValues = (s : Constraints) (c : Component) → IsComponent s c → (ranges : List (Interval Ratio)) (rows : List (List (ℕ × Bool))) → AreEach (IsBounded s) c.points ranges → AreRowsOf s c rows → (xs : List Ratio) → NumbersSolve rows ranges xs → AreValuesOf s c xs

-- and where its numbers leave room for their sums and no equation has a point twice, no operation passes where the checker sums an equation of it
abbrev pub NumbersHaveSums : Type 0
NumbersHaveSums = (s : Constraints) (c : Component) → IsComponent s c → IsNarrowForest s c → (ranges : List (Interval Ratio)) (rows : List (List (ℕ × Bool))) → AreEach (IsBounded s) c.points ranges → AreRowsOf s c rows → (xs : List Ratio) → NumbersSolve rows ranges xs → AreWhole ranges xs → (all : List Ratio) → ((i p : ℕ) (x : Ratio) → slice_get c.points i ≡ Some p → slice_get xs i ≡ Some x → slice_get all p ≡ Some x) → (i : ℕ) → IsIn i c.equations → (x : Ratio) × IsSumOf (equation_terms all (equation_at s.equations i).entries) (Ok x)

-- values that solve the problem of a component without a wide fact are values of it
abbrev pub SolutionsAreValues : Type 0
SolutionsAreValues = (s : Constraints) (c : Component) → IsComponent s c → HasNoWide s c → (problem : Problem) → IsProblemOf s c problem → (xs : List Ratio) → SolvesProblem problem xs → AreValuesOf s c xs
