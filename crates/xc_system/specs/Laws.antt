-- What follows from the definitions for all systems.
use Rattle.std.specs.Prelude.{◌≡◌, ◌<◌, ℕ, All, List, Some, length, slice_get}
use Rattle.xc_model.specs.Laws.{IsEquivalence}
use Rattle.xc_system.specs.Components.{IsComponent, AreComponents, HasPoint, IsLinked}
use Rattle.xc_system.specs.Kept.{Multipliers}
use Rattle.xc_lists.specs.Members.{IsIn}
use Rattle.xc_system.specs.Refutations.{IsContradiction, IsContradictionOf, Passes}
use Rattle.xc_system.specs.Solutions.{Assignment, Solves, MaySolve, SolvesPart}
use Rattle.xc_system.specs.Systems.{Constraints, IsSystem}
use Rattle.xc_system.specs.declared.types.Component.{Component}
use Rattle.xc_system.specs.declared.types.Equation.{Equation}

-- no assignment is admitted by the facts that a contradiction lists and meets the equations that it lists
abbrev pub ExcludesPassing : Type 0
ExcludesPassing = (s : Constraints) (r : Multipliers) (z : Assignment) → IsSystem s → IsContradiction s r → ¬ Passes s r z

-- so none solves the system, whatever a wide fact might stand for
abbrev pub ExcludesSolutions : Type 0
ExcludesSolutions = (s : Constraints) (r : Multipliers) (z : Assignment) → IsSystem s → IsContradiction s r → ¬ MaySolve s z

-- what solves a system may solve it
abbrev pub SolvingMaySolve : Type 0
SolvingMaySolve = (s : Constraints) (z : Assignment) → Solves s z → MaySolve s z

-- the assignment has at the points of each component the values of the one for that component
abbrev pub Joins : List Component → (ℕ → Assignment) → Assignment → Type 0
Joins cs each z = (k p : ℕ) (c : Component) → slice_get cs k ≡ Some c → IsIn p c.points → z p ≡ each k p

-- solutions of all components, joined, solve the system
abbrev pub JoinedSolve : Type 0
JoinedSolve = (s : Constraints) (cs : List Component) (each : ℕ → Assignment) (z : Assignment) → IsSystem s → AreComponents s cs → Joins cs each z
    → ((k : ℕ) (c : Component) → slice_get cs k ≡ Some c → SolvesPart s c (each k)) → Solves s z

-- a solution of the system solves each component
abbrev pub PartsSolved : Type 0
PartsSolved = (s : Constraints) (c : Component) (z : Assignment) → Solves s z → SolvesPart s c z

-- a contradiction of a component is one of the system
abbrev pub PartContradicts : Type 0
PartContradicts = (s : Constraints) (c : Component) (r : Multipliers) → IsSystem s → IsComponent s c → IsContradictionOf s c r → IsContradiction s r

-- every point of a component is one of the system's
abbrev pub PointsAreInside : Type 0
PointsAreInside = (s : Constraints) (c : Component) → IsComponent s c → All (λ p. p < s.points) c.points

-- and so is every equation
abbrev pub EquationsAreInside : Type 0
EquationsAreInside = (s : Constraints) (c : Component) → IsComponent s c → All (λ i. i < length s.equations) c.equations

-- every point of an equation of a component is one of the component's
abbrev pub OwnsPoints : Type 0
OwnsPoints = (s : Constraints) (c : Component) → IsComponent s c → (i p : ℕ) → p < s.points → IsIn i c.equations → HasPoint s.equations i p → IsIn p c.points

-- being linked is an equivalence
abbrev pub LinksAreEquivalences : Type 0
LinksAreEquivalences = (es : List Equation) → IsEquivalence (IsLinked es)

-- an equation that has a point is one of them
abbrev pub HasWithin : Type 0
HasWithin = (es : List Equation) (i p : ℕ) → HasPoint es i p → i < length es

-- and the point is one of the system's
abbrev pub PointsWithin : Type 0
PointsWithin = (s : Constraints) (i p : ℕ) → IsSystem s → HasPoint s.equations i p → p < s.points
