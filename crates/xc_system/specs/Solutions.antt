-- Assignments, and what they solve.
use Rattle.std.specs.Prelude.{◌≡◌, ℕ, pos, ◌<ℤ◌, List, [], ◌∷◌, Some, slice_get, IfSome, IsSomeAnd}
use Rattle.xc_interval.specs.Intervals.{numbers_of, HasNumber}
use Rattle.xc_model.specs.Fraction.{Fraction, whole, sum_of, product_of}
use Rattle.xc_model.specs.Ratio.{fraction_of}
use Rattle.xc_lists.specs.Members.{IsIn}
use Rattle.xc_system.specs.Systems.{Constraints}
use Rattle.xc_system.specs.declared.types.Bound.{Bound}
use Rattle.xc_system.specs.declared.types.Component.{Component}
use Rattle.xc_system.specs.declared.types.Entry.{Entry}
use Rattle.xc_system.specs.declared.types.Equation.{Equation}

-- an assignment gives each point a number
abbrev pub Assignment : Type 0
Assignment = ℕ → Fraction

-- the number is 0
abbrev pub IsZero : Fraction → Type 0
IsZero x = x.num ≡ pos 0

-- the number is less than 0
abbrev pub IsNegative : Fraction → Type 0
IsNegative x = x.num <ℤ pos 0

-- the fact is not wide, and admits the number: its interval has it
abbrev pub Admits : Bound → Fraction → Type 0
Admits bound x = IsSomeAnd bound.range (λ interval. HasNumber (numbers_of interval) x)

-- the same, where nothing is asked of a wide fact, whatever it might stand for
abbrev pub MayAdmit : Bound → Fraction → Type 0
MayAdmit bound x = IfSome bound.range (λ interval. HasNumber (numbers_of interval) x)

-- the sum over the entries of weight times value
abbrev pub sum_over_entries : List Entry → Assignment → Fraction
sum_over_entries [] z = whole (pos 0)
sum_over_entries (entry ∷ entries) z = sum_of (product_of (fraction_of entry.weight) (z entry.point)) (sum_over_entries entries z)

-- the equation holds of the values: that sum is 0
abbrev pub Holds : Equation → Assignment → Type 0
Holds equation z = IsZero (sum_over_entries equation.entries z)

-- the assignment solves the system: no fact is wide, each admits the value of its point, and each equation holds
pub record Solves (s : Constraints) (z : Assignment) : Type 0 where
  pub admitted : (k : ℕ) (bound : Bound) → slice_get s.bounds k ≡ Some bound → Admits bound (z bound.point)
  pub met : (i : ℕ) (equation : Equation) → slice_get s.equations i ≡ Some equation → Holds equation z

-- the assignment may solve it: each fact that is not wide admits the value of its point, and each equation holds
pub record MaySolve (s : Constraints) (z : Assignment) : Type 0 where
  pub admitted : (k : ℕ) (bound : Bound) → slice_get s.bounds k ≡ Some bound → MayAdmit bound (z bound.point)
  pub met : (i : ℕ) (equation : Equation) → slice_get s.equations i ≡ Some equation → Holds equation z

-- the assignment solves a component: the same of its points, their facts and its equations
pub record SolvesPart (s : Constraints) (c : Component) (z : Assignment) : Type 0 where
  pub admitted : (k : ℕ) (bound : Bound) → slice_get s.bounds k ≡ Some bound → IsIn bound.point c.points → Admits bound (z bound.point)
  pub met : (i : ℕ) (equation : Equation) → slice_get s.equations i ≡ Some equation → IsIn i c.equations → Holds equation z
