-- The forest of a component: its points and equations by their places in the component, and for each point the tightest ends of its facts.
use Rattle.std.specs.Prelude.{◌≡◌, ℕ, ◌<◌, pos, negsuc, Bool, true, false, List, Some, Ok, length, map, slice_index}
use Rattle.xc_interval.specs.Ranges.{AllKnown, LiesInAll}
use Rattle.xc_interval.specs.declared.interval.Interval.{Interval}
use Rattle.xc_joint.specs.Causes.{IsEmptyPoint}
use Rattle.xc_joint.specs.Lists.{AreEach}
use Rattle.xc_joint.specs.Solved.{SolvesRanges}
use Rattle.xc_joint.specs.declared.one_forest.Span.{Span}
use Rattle.xc_joint.specs.declared.solving.Solution.{Solution}
use Rattle.xc_model.specs.Fraction.{Fraction}
use Rattle.xc_model.specs.Ratio.{Ratio}
use Rattle.xc_system.specs.Spots.{HasTighter, IsFirstTightest}
use Rattle.xc_system.specs.Systems.{Constraints, equation_at, facts_of, range_at}
use Rattle.xc_system.specs.declared.types.Component.{Component}
use Rattle.xc_system.specs.declared.types.Entry.{Entry}
use Rattle.xc_system.specs.declared.types.Side.TheVariants.{Low, High}

-- ---- points

-- no fact of the point is wide, and some value lies in the intervals of all of them
pub record HasSome (s : Constraints) (p : ℕ) : Type 0 where
  pub inside : p < s.points
  pub known : AllKnown (map (range_at s.bounds) (facts_of s.bounds p))
  pub some : ¬ IsEmptyPoint s p

-- a number lies in the intervals of all facts of the point, none of which is wide
abbrev pub HasNumberIn : Constraints → ℕ → Type 0
HasNumberIn s p = (x : Fraction) × LiesInAll (map (range_at s.bounds) (facts_of s.bounds p)) x

-- the facts of a point that bound it: those with the first tightest ends
pub record IsSpanOf (s : Constraints) (p : ℕ) (span : Span) : Type 0 where
  pub known : AllKnown (map (range_at s.bounds) (facts_of s.bounds p))
  pub some : HasNumberIn s p
  pub low : IsFirstTightest (HasTighter Low s.bounds) (facts_of s.bounds p) span.low
  pub high : IsFirstTightest (HasTighter High s.bounds) (facts_of s.bounds p) span.high

-- the range between these ends
pub record IsRangeOf (s : Constraints) (span : Span) (range : Interval Ratio) : Type 0 where
  pub low : Interval Ratio
  pub high : Interval Ratio
  pub low_known : range_at s.bounds span.low ≡ Some low
  pub high_known : range_at s.bounds span.high ≡ Some high
  pub low_is : range.low ≡ low.low
  pub high_is : range.high ≡ high.high

-- the range of a point
pub record IsBounded (s : Constraints) (p : ℕ) (range : Interval Ratio) : Type 0 where
  pub span : Span
  pub is : IsSpanOf s p span
  pub of : IsRangeOf s span range

-- ---- equations

-- the weight is 1, or -1 for a minus sign
abbrev pub IsSign : Bool → Ratio → Type 0
IsSign false weight = (weight.num ≡ pos 1) × (weight.den ≡ pos 1)
IsSign true weight = (weight.num ≡ negsuc 0) × (weight.den ≡ pos 1)

-- the place of the entry's point among these points, and its sign
pub record IsSignedPlace (points : List ℕ) (entry : Entry) (signed : ℕ × Bool) : Type 0 where
  pub inside : signed.0 < length points
  pub there : slice_index points signed.0 ≡ entry.point
  pub sign : IsSign signed.1 entry.weight

-- the row of an equation
abbrev pub IsRowOf : Constraints → List ℕ → ℕ → List (ℕ × Bool) → Type 0
IsRowOf s points i row = AreEach (IsSignedPlace points) (equation_at s.equations i).entries row

-- ---- the forest

-- the rows of the equations of a component
abbrev pub AreRowsOf : Constraints → Component → List (List (ℕ × Bool)) → Type 0
AreRowsOf s c rows = AreEach (IsRowOf s c.points) c.equations rows

-- numbers solve the ranges and the rows of a component, or multipliers contradict them
pub record IsSolved (s : Constraints) (c : Component) (ranges : List (Interval Ratio)) (solution : Solution) : Type 0 where
  pub rows : List (List (ℕ × Bool))
  pub are : AreRowsOf s c rows
  pub solves : SolvesRanges rows ranges (Ok solution)
