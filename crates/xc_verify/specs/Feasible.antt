-- How values are judged.
use Rattle.std.specs.Prelude.{◌≡◌, ℕ, ◌==◌, min, List, Option, Some, None, length, slice_get, slice_index, filter_map, pos, if◌then◌else◌}
use Rattle.std.specs.Option.{option_map, option_map_or}
use Rattle.xc_interval.specs.Intervals.{numbers_of, HasNumber}
use Rattle.xc_interval.specs.declared.interval.Interval.{Interval}
use Rattle.xc_model.specs.Fraction.{whole}
use Rattle.xc_model.specs.Ratio.{Ratio, fraction_of}
use Rattle.xc_system.specs.Solutions.{Assignment}
use Rattle.xc_system.specs.Systems.{Constraints, equation_at, facts_of, range_at}
use Rattle.xc_system.specs.declared.types.Bound.{Bound}
use Rattle.xc_system.specs.declared.types.Entry.{Entry}
use Rattle.xc_verify.specs.Objections.{IsFirstOf, IsFirstBelow, IsMetIn, IsNothing}
use Rattle.xc_verify.specs.Sums.{Term, plus_product}
use Rattle.xc_verify.specs.declared.types.Objection.{Objection}
use Rattle.xc_verify.specs.declared.types.Objection.TheVariants.{Misses, WideFact}
use Rattle.xc_verify.specs.declared.types.What.TheVariants.{Binding, Point}

-- the assignment of these values, and of 0 to all further points
abbrev pub assignment_of : List Ratio → Assignment
assignment_of values p = option_map_or (λ value. fraction_of value) (slice_get values p) (whole (pos 0))

-- what is met where there are more values or fewer than points
abbrev pub count_objection : ℕ → List Ratio → Option Objection
count_objection points values = if length values == points then None else Some (Misses (Point (min (length values) points)))

-- what is met where a fact has this interval: that it is wide, or that the value of its point is outside
abbrev pub IsMetInside : ℕ → List Ratio → ℕ → Option (Interval Ratio) → Option Objection → Type 0
IsMetInside k values p None met = met ≡ Some (WideFact k)
IsMetInside k values p (Some interval) None = HasNumber (numbers_of interval) (assignment_of values p)
IsMetInside k values p (Some interval) (Some o) = (¬ HasNumber (numbers_of interval) (assignment_of values p)) × (o ≡ Misses (Point p))

-- what is met first at the facts of a point, ascending
abbrev pub IsMetAtPoint : List Bound → List Ratio → ℕ → Option Objection → Type 0
IsMetAtPoint bounds values p met = IsFirstBelow (length (facts_of bounds p))
    (λ i o. IsMetInside (slice_index (facts_of bounds p) i) values p (range_at bounds (slice_index (facts_of bounds p) i)) o) met

-- what an equation adds up: for each entry in order, the weight times the value of its point
abbrev pub equation_terms : List Ratio → List Entry → List Term
equation_terms values entries = filter_map (λ entry. option_map (plus_product entry.weight) (slice_get values entry.point)) entries

-- what is met first in values: in their number, then at the points, and then at the equations, of each of which the sum has to be 0
abbrev pub AreValuesMet : Constraints → List Ratio → Option Objection → Type 0
AreValuesMet s values met = IsFirstOf (λ o. o ≡ count_objection s.points values)
    (IsFirstOf (IsFirstBelow s.points (IsMetAtPoint s.bounds values))
    (IsFirstBelow (length s.equations) (λ i o. IsMetIn (Binding i) IsNothing (equation_terms values (equation_at s.equations i).entries) o))) met
