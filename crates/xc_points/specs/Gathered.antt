-- The data points of the facts of a report (Calculations 1.1: facts of one concept with equal dimensions), and their ranges.
use Rattle.std.specs.Prelude.{◌≡◌, ℕ, ℤ, ◌<◌, ◌==◌, ◌&&◌, Bool, false, List, [], ◌∷◌, map, take, filter, length, Option, Some, None, option_and_then, slice_get, ◌↔◌, if◌then◌else◌}
use Rattle.std.specs.List.{list_any, filter_map, range_with_len}
use Rattle.std.specs.Option.{option_map_or}
use Rattle.xc_interval.specs.Intervals.{frac_parts, numbers_of, pairs_of, HasNumber, HasNoPair}
use Rattle.xc_interval.specs.declared.interval.Interval.{Interval}
use Rattle.xc_interval.specs.declared.mode.Mode.{Mode}
use Rattle.xc_interval.specs.declared.range.Range.{Range}
use Rattle.xc_interval.specs.declared.range.Range.TheVariants as range
use Rattle.xc_model.specs.Ratio.{Ratio}
use Rattle.xc_names.specs.declared.expanded.NameId.{NameId}
use Rattle.xc_points.specs.Facts.{PointAdmits, IsWidePoint, IsEmptyPoint}
use Rattle.xc_points.specs.Kept.{Gathered}
use Rattle.xc_points.specs.Values.{AreEndsOfValue}
use Rattle.xc_points.specs.declared.types.Point.{Point}
use Rattle.xc_report.specs.declared.reports.Fact.{Fact}

-- two facts are of one point: their concepts and their keys are the same
abbrev pub is_together : Fact → Fact → Bool
is_together a b = (a.concept.0 == b.concept.0) && (a.key == b.key)

-- the numbers of all facts
abbrev pub numbers : List Fact → List ℕ
numbers facts = range_with_len 0 (length facts)

-- fact number f is of one point with this one
abbrev pub is_number_with : List Fact → Fact → ℕ → Bool
is_number_with facts fact f = option_map_or (is_together fact) (slice_get facts f) false

-- the numbers of the facts of one point with this one, ascending
abbrev pub numbers_with : List Fact → Fact → List ℕ
numbers_with facts fact = filter (is_number_with facts fact) (numbers facts)

-- fact number f, where no earlier fact is of one point with it
abbrev pub first_of_point : List Fact → ℕ → Option Fact
first_of_point facts f = option_and_then (λ fact. if list_any (is_together fact) (take f facts) then None else Some fact) (slice_get facts f)

-- the first facts of the points, in the order of the facts
abbrev pub first_facts : List Fact → List Fact
first_facts facts = filter_map (first_of_point facts) (numbers facts)

-- the concept, the key and the facts of the point that has this fact
abbrev pub group_with : List Fact → Fact → NameId × ℕ × List ℕ
group_with facts fact = (fact.concept, fact.key, numbers_with facts fact)

-- the concept, the key and the facts of each point, by first fact
abbrev pub groups : List Fact → List (NameId × ℕ × List ℕ)
groups facts = map (group_with facts) (first_facts facts)

-- the concept, the key and the facts of a point
abbrev pub group_of : Point → NameId × ℕ × List ℕ
group_of point = (point.concept, point.key, point.facts)

-- the interval of a fact, which has none exactly where it is wide
abbrev pub AreEndsOf : Mode → Fact → Option (Interval Ratio) → Type 0
AreEndsOf mode fact ends = AreEndsOfValue mode fact.decimals fact.value ends

-- the intervals of facts, one by one
abbrev pub AreEnds : Mode → List Fact → List (Option (Interval Ratio)) → Type 0
AreEnds mode [] [] = Unit {0}
AreEnds mode [] (e ∷ es) = ⊥
AreEnds mode (fact ∷ facts) [] = ⊥
AreEnds mode (fact ∷ facts) (e ∷ es) = AreEndsOf mode fact e × AreEnds mode facts es

-- the interval has exactly the numbers that all facts of a point admit, none of which is wide; there are some
pub record IsMet (mode : Mode) (facts : List Fact) (point : Point) (i : Interval Ratio) : Type 0 where
  pub narrow : ¬ IsWidePoint mode facts point
  pub numbers : (p : ℤ) (q : ℕ) (positive : 0 < q) → PointAdmits mode facts point p q ↔ HasNumber (numbers_of i) (record { num = p; den = q; positive = positive })
  pub some : ¬ HasNoPair (pairs_of frac_parts i)

-- the range of a point: wide where one of its facts is; otherwise empty where no number is admitted by all its facts; otherwise these numbers
abbrev pub IsRange : Mode → List Fact → Point → Range → Type 0
IsRange mode facts point range.Wide = IsWidePoint mode facts point
IsRange mode facts point range.Empty = (¬ IsWidePoint mode facts point) × IsEmptyPoint mode facts point
IsRange mode facts point (range.Meets i) = IsMet mode facts point i

-- the data points of these facts, each with exactly its facts and its range, and the interval of each fact
pub record ArePoints (mode : Mode) (facts : List Fact) (gathered : Gathered) : Type 0 where
  pub groups_are : map group_of gathered.points ≡ groups facts
  pub ends : AreEnds mode facts gathered.ends
  pub ranges : (k : ℕ) (point : Point) → slice_get gathered.points k ≡ Some point → IsRange mode facts point point.range
