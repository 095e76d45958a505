-- What follows from the definitions for all points.
use Rattle.std.specs.Prelude.{◌≡◌, ℕ, List, Option, Some, slice_get}
use Rattle.xc_interval.specs.declared.interval.Interval.{Interval}
use Rattle.xc_interval.specs.declared.mode.Mode.{Mode}
use Rattle.xc_interval.specs.declared.range.Range.{Range}
use Rattle.xc_points.specs.Gathered.{AreEnds, ArePoints, IsRange}
use Rattle.xc_points.specs.Kept.{AreDistinct, Gathered, HasFact}
use Rattle.xc_points.specs.declared.types.Point.{Point}
use Rattle.xc_model.specs.Ratio.{Ratio}
use Rattle.xc_report.specs.declared.reports.Fact.{Fact}

-- the point has the concept and the key of the fact
pub record IsPlaceOf (point : Point) (fact : Fact) : Type 0 where
  pub concept : point.concept ≡ fact.concept
  pub key : point.key ≡ fact.key

-- each fact is one of a point that has its concept and its key
abbrev pub HasPoint : Type 0
HasPoint = (mode : Mode) (facts : List Fact) (gathered : Gathered) → ArePoints mode facts gathered → (f : ℕ) (fact : Fact) → slice_get facts f ≡ Some fact
    → (k : ℕ) × (point : Point) × (slice_get gathered.points k ≡ Some point) × IsPlaceOf point fact × HasFact point f

-- a point has facts with its concept and its key alone
abbrev pub HasOwnFacts : Type 0
HasOwnFacts = (mode : Mode) (facts : List Fact) (gathered : Gathered) → ArePoints mode facts gathered → (k : ℕ) (point : Point) → slice_get gathered.points k ≡ Some point
    → (f : ℕ) → HasFact point f → (fact : Fact) × (slice_get facts f ≡ Some fact) × IsPlaceOf point fact

-- two points have two concepts or two keys
abbrev pub HasDistinct : Type 0
HasDistinct = (mode : Mode) (facts : List Fact) (gathered : Gathered) → ArePoints mode facts gathered → AreDistinct gathered.points

-- a point has one range
abbrev pub HasOneRange : Type 0
HasOneRange = (mode : Mode) (facts : List Fact) (point : Point) (r s : Range) → IsRange mode facts point r → IsRange mode facts point s → r ≡ s

-- facts have one list of intervals
abbrev pub HasOneEnds : Type 0
HasOneEnds = (mode : Mode) (facts : List Fact) (one other : List (Option (Interval Ratio))) → AreEnds mode facts one → AreEnds mode facts other → one ≡ other
