-- The ranges of a component's points, with closed ends alone: an open end becomes the closed one beside it.
use Rattle.std.specs.Prelude.{◌≡◌, ℕ, ◌<◌, List, length, Some, slice_index}
use Rattle.xc_forest.specs.Forests.{range_at as span_at}
use Rattle.xc_interval.specs.Ends.{value_of}
use Rattle.xc_interval.specs.declared.interval.Interval.{Interval}
use Rattle.xc_joint.specs.Small.{low_pair, high_pair}
use Rattle.xc_model.specs.Parts.{Parts}
use Rattle.xc_model.specs.Ratio.{Ratio}
use Rattle.xc_lists.specs.Members.{IsIn}
use Rattle.xc_system.specs.Systems.{Constraints, facts_of, range_at}
use Rattle.xc_system.specs.declared.types.Component.{Component}

-- x is the low end of one of these facts
pub record IsLowOf (s : Constraints) (facts : List ℕ) (x : Parts) : Type 0 where
  pub fact : ℕ
  pub interval : Interval Ratio
  pub there : IsIn fact facts
  pub known : range_at s.bounds fact ≡ Some interval
  pub is : x ≡ low_pair interval.low

-- x is the high end of one of these facts
pub record IsHighOf (s : Constraints) (facts : List ℕ) (x : Parts) : Type 0 where
  pub fact : ℕ
  pub interval : Interval Ratio
  pub there : IsIn fact facts
  pub known : range_at s.bounds fact ≡ Some interval
  pub is : x ≡ high_pair interval.high

-- a range for each point of the component, whose ends are ends of facts of the point
pub record AreRangesOf (s : Constraints) (c : Component) (ranges : List (Interval Parts)) : Type 0 where
  pub each : length ranges ≡ length c.points
  pub lows : (p : ℕ) → p < length ranges → IsLowOf s (facts_of s.bounds (slice_index c.points p)) (value_of (span_at ranges p).low)
  pub highs : (p : ℕ) → p < length ranges → IsHighOf s (facts_of s.bounds (slice_index c.points p)) (value_of (span_at ranges p).high)
