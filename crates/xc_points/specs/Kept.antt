-- What is kept of data points: whose facts they are, and what these allow.
use Rattle.std.specs.Prelude.{◌≡◌, ◌≢◌, ℕ, ◌<◌, List, [], length, Option, Some, slice_get, IsTrue, ◌==◌}
use Rattle.std.specs.List.{list_any, filter_map}
use Rattle.std.specs.List.Sorted.{IsStrictlySortedBy}
use Rattle.std.specs.Ordering.{nat_cmp}
use Rattle.xc_interval.specs.Ranges.{IsRangeOf}
use Rattle.xc_interval.specs.declared.interval.Interval.{Interval}
use Rattle.xc_model.specs.Ratio.{Ratio}
use Rattle.xc_points.specs.declared.types.Point.{Point}

-- the points of a report, and the interval of each of its facts, none where the fact is wide
pub record Gathered : Type 0 where
  pub points : List Point
  pub ends : List (Option (Interval Ratio))

-- fact number f is one of the point's
abbrev pub HasFact : Point → ℕ → Type 0
HasFact point f = IsTrue (list_any (λ g. g == f) point.facts)

-- the intervals of these facts; none is listed for a number of no fact
abbrev pub ends_of : List (Option (Interval Ratio)) → List ℕ → List (Option (Interval Ratio))
ends_of ends facts = filter_map (λ f. slice_get ends f) facts

-- no two points have one concept and one key
abbrev pub AreDistinct : List Point → Type 0
AreDistinct points = (j k : ℕ) (p q : Point) → slice_get points j ≡ Some p → slice_get points k ≡ Some q → p.concept ≡ q.concept → p.key ≡ q.key → j ≡ k

-- what is kept of points and of the intervals of all facts
pub record AreKept (points : List Point) (ends : List (Option (Interval Ratio))) : Type 0 where
  -- every fact is one of exactly one point, and no other number is listed
  pub covers : (f : ℕ) → f < length ends → (k : ℕ) × (point : Point) × ((slice_get points k ≡ Some point) × HasFact point f)
  pub within : (k : ℕ) (point : Point) → slice_get points k ≡ Some point → (f : ℕ) → HasFact point f → f < length ends
  pub apart : (j k : ℕ) (p q : Point) → slice_get points j ≡ Some p → slice_get points k ≡ Some q → (f : ℕ) → HasFact p f → HasFact q f → j ≡ k
  -- the facts of a point ascend, each once, and there is one
  pub ascend : (k : ℕ) (point : Point) → slice_get points k ≡ Some point → IsStrictlySortedBy nat_cmp point.facts
  pub some : (k : ℕ) (point : Point) → slice_get points k ≡ Some point → point.facts ≢ []
  pub distinct : AreDistinct points
  -- the range of a point is the one that its facts' intervals give
  pub ranges : (k : ℕ) (point : Point) → slice_get points k ≡ Some point → IsRangeOf (ends_of ends point.facts) point.range
