-- What a solution of the system says of the report's own numbers.
use Rattle.std.specs.Prelude.{◌≡◌, ℕ, ℤ, ◌<◌, ◌↔◌, List, All, Some, map, length, slice_get}
use Rattle.xc_bind.specs.Equation.{AddsUp}
use Rattle.xc_bind.specs.Placed.{IsPlaced}
use Rattle.xc_bind.specs.Systems.{IsSystemOf}
use Rattle.xc_bind.specs.declared.types.Binding.{Binding}
use Rattle.xc_interval.specs.declared.mode.Mode.{Mode}
use Rattle.xc_model.specs.Fraction.{Fraction, IsNumberOver}
use Rattle.xc_points.specs.Facts.{Admits, IsWide}
use Rattle.xc_points.specs.Gathered.{ArePoints}
use Rattle.xc_points.specs.Kept.{AreKept, Gathered, HasFact}
use Rattle.xc_points.specs.declared.types.Point.{Point}
use Rattle.xc_report.specs.declared.reports.Fact.{Fact}
use Rattle.xc_system.specs.Solutions.{Assignment, Solves}
use Rattle.xc_system.specs.Systems.{Constraints}

-- the fact is not wide, and may stand for the number, by the standard's table
pub record MayStandFor (mode : Mode) (fact : Fact) (x : Fraction) : Type 0 where
  pub narrow : ¬ IsWide mode fact
  pub admits : Admits mode fact x.num x.den

-- each fact may stand for the value of its point
abbrev pub FactsAdmit : Mode → List Fact → List Point → Assignment → Type 0
FactsAdmit mode facts points z = (k : ℕ) (point : Point) → slice_get points k ≡ Some point → (f : ℕ) → HasFact point f → (fact : Fact) → slice_get facts f ≡ Some fact → MayStandFor mode fact (z k)

-- the values of the points are these whole numbers over q
abbrev pub AreValuesOver : List Point → Assignment → (ℕ → ℤ) → ℕ → Type 0
AreValuesOver points z n q = (p : ℕ) → p < length points → IsNumberOver (z p) (n p) q

-- the equation of each binding holds of them
abbrev pub BindingsHold : List Binding → (ℕ → ℤ) → Type 0
BindingsHold bindings n = (i : ℕ) (binding : Binding) → slice_get bindings i ≡ Some binding → AddsUp binding (n binding.total) (map (λ term. n term.point) binding.terms)

-- an assignment solves the system exactly where each fact may stand for the value of its point and the equation of each binding holds
abbrev pub SolutionsAdmit : Type 0
SolutionsAdmit = (mode : Mode) (facts : List Fact) (gathered : Gathered) (bindings : List Binding) (s : Constraints) (z : Assignment) (n : ℕ → ℤ) (q : ℕ)
    → AreKept gathered.points gathered.ends → ArePoints mode facts gathered → All (IsPlaced gathered.points) bindings → IsSystemOf gathered bindings s → 0 < q → AreValuesOver gathered.points z n q
    → Solves s z ↔ (FactsAdmit mode facts gathered.points z × BindingsHold bindings n)
