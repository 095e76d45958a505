-- The components of a system.
use Rattle.std.specs.Prelude.{◌≡◌, ℕ, ◌<◌, ◌↔◌, List, Some, slice_get, slice_index}
use Rattle.std.specs.List.Sorted.{IsStrictlySortedBy}
use Rattle.std.specs.Ordering.{nat_cmp}
use Rattle.xc_lists.specs.Members.{IsIn}
use Rattle.xc_system.specs.Systems.{Constraints, equation_at, points_of}
use Rattle.xc_system.specs.declared.types.Component.{Component}
use Rattle.xc_system.specs.declared.types.Equation.{Equation}

-- equation i has the point
abbrev pub HasPoint : List Equation → ℕ → ℕ → Type 0
HasPoint equations i p = IsIn p (points_of (equation_at equations i))

-- a list of points leads from one point to the other, each sharing an equation with the next
pub data IsLinked (equations : List Equation) : ℕ → ℕ → Type 0 where
  itself : (p : ℕ) → IsLinked equations p p
  by : (i p q r : ℕ) → HasPoint equations i p → HasPoint equations i q → IsLinked equations q r → IsLinked equations p r

-- the least point of a component, which is its first
abbrev pub least_of : Component → ℕ
least_of c = slice_index c.points 0

-- the points that are linked with the least of them, ascending, and the equations that have one of them, ascending
pub record IsComponent (s : Constraints) (c : Component) : Type 0 where
  pub least : least_of c < s.points
  pub points : (p : ℕ) → IsIn p c.points ↔ ((p < s.points) × IsLinked s.equations (least_of c) p)
  pub equations : (i : ℕ) → IsIn i c.equations ↔ ((p : ℕ) × HasPoint s.equations i p × IsIn p c.points)
  pub points_ascend : IsStrictlySortedBy nat_cmp c.points
  pub equations_ascend : IsStrictlySortedBy nat_cmp c.equations

-- component number k has the point
pub record Holding (cs : List Component) (p k : ℕ) : Type 0 where
  pub component : Component
  pub there : slice_get cs k ≡ Some component
  pub has : IsIn p component.points

-- the components of the system: every point is in one of them, and they are numbered by their least points
pub record AreComponents (s : Constraints) (cs : List Component) : Type 0 where
  pub each : (k : ℕ) (c : Component) → slice_get cs k ≡ Some c → IsComponent s c
  pub all : (p : ℕ) → p < s.points → (k : ℕ) × Holding cs p k
  pub numbered : (j k : ℕ) (b c : Component) → slice_get cs j ≡ Some b → slice_get cs k ≡ Some c → j < k → least_of b < least_of c
