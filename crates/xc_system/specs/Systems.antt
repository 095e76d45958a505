-- Systems: what the facts of a report allow for the values of its data points, and the sums that its bindings state. One value is
-- asked for each point (the joint question is this project's own).
use Rattle.std.specs.Prelude.{ℕ, ◌==◌, ◌<◌, ◌^◌, List, [], length, map, Option, None, slice_get, slice_index_or, IsTrue, All}
use Rattle.std.specs.List.{list_any}
use Rattle.std.specs.Option.{option_map_or}
use Rattle.xc_interval.specs.declared.interval.Interval.{Interval}
use Rattle.xc_model.specs.Ratio.{Ratio}
use Rattle.xc_lists.specs.Members.{places_with}
use Rattle.xc_system.specs.declared.types.Bound.{Bound}
use Rattle.xc_system.specs.declared.types.Equation.{Equation}

-- how many points there are, a bound for each fact, and an equation for each binding
pub record Constraints : Type 0 where
  pub points : ℕ
  pub bounds : List Bound
  pub equations : List Equation

-- some bound is one of this point
abbrev pub HasBound : List Bound → ℕ → Type 0
HasBound bounds p = IsTrue (list_any (λ bound. bound.point == p) bounds)

-- what is kept of a system: every bound and every entry names a point, and every point has a bound
pub record IsSystem (s : Constraints) : Type 0 where
  pub bounds : All (λ bound. bound.point < s.points) s.bounds
  pub equations : All (λ equation. All (λ entry. entry.point < s.points) equation.entries) s.equations
  pub bounded : (p : ℕ) → p < s.points → HasBound s.bounds p

-- a system is small enough for its numbers
pub record IsSmall (s : Constraints) : Type 0 where
  pub points : s.points < 2 ^ 31
  pub bounds : length s.bounds < 2 ^ 31
  pub equations : length s.equations < 2 ^ 31

-- the equation with this number; no entries where there is none
abbrev pub equation_at : List Equation → ℕ → Equation
equation_at equations i = slice_index_or equations i (record { entries = [] })

-- the points of an equation, by its entries
abbrev pub points_of : Equation → List ℕ
points_of equation = map (λ entry. entry.point) equation.entries

-- the interval of fact k, where it is not wide
abbrev pub range_at : List Bound → ℕ → Option (Interval Ratio)
range_at bounds k = option_map_or (λ bound. bound.range) (slice_get bounds k) None

-- the point of fact k
abbrev pub point_at : List Bound → ℕ → ℕ
point_at bounds k = option_map_or (λ bound. bound.point) (slice_get bounds k) 0

-- the facts of a point, ascending
abbrev pub facts_of : List Bound → ℕ → List ℕ
facts_of bounds p = places_with (map (λ bound. bound.point) bounds) p
