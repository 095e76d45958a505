-- The system of a report's data points and bindings: a bound for each fact, and an equation for each binding.
use Rattle.std.specs.Prelude.{◌≡◌, ℕ, pos, List, [], ◌∷◌, Some, slice_get, length}
use Rattle.std.specs.List.{AllZip}
use Rattle.xc_bind.specs.declared.types.Binding.{Binding}
use Rattle.xc_bind.specs.declared.types.Term.{Term}
use Rattle.xc_decimal.specs.Shortest.{decimal_number}
use Rattle.xc_model.specs.Fraction.{Fraction, SameNumber, whole, neg_of}
use Rattle.xc_model.specs.Ratio.{fraction_of}
use Rattle.xc_points.specs.Kept.{Gathered, HasFact}
use Rattle.xc_points.specs.declared.types.Point.{Point}
use Rattle.xc_system.specs.Systems.{Constraints}
use Rattle.xc_system.specs.declared.types.Bound.{Bound}
use Rattle.xc_system.specs.declared.types.Entry.{Entry}
use Rattle.xc_system.specs.declared.types.Equation.{Equation}

-- the entry has this point, and this weight
pub record IsEntry (point : ℕ) (weight : Fraction) (entry : Entry) : Type 0 where
  pub at : entry.point ≡ point
  pub weighs : SameNumber (fraction_of entry.weight) weight

-- the entry of a term has the term's point and minus its weight
abbrev pub IsTermEntry : Term → Entry → Type 0
IsTermEntry term entry = IsEntry term.point (neg_of (decimal_number term.weight)) entry

-- the entries of a binding's equation: the total with the weight 1, and then one for each term in order
abbrev pub AreEntries : Binding → List Entry → Type 0
AreEntries binding [] = ⊥
AreEntries binding (e ∷ es) = IsEntry binding.total (whole (pos 1)) e × AllZip IsTermEntry binding.terms es

-- the equation is the binding's
abbrev pub IsEquationOf : Binding → Equation → Type 0
IsEquationOf binding equation = AreEntries binding equation.entries

-- the bound of fact number f has its interval, where it is not wide, and names the point that has the fact
pub record IsBoundOf (gathered : Gathered) (f : ℕ) (bound : Bound) : Type 0 where
  pub range : slice_get gathered.ends f ≡ Some bound.range
  pub point : Point
  pub there : slice_get gathered.points bound.point ≡ Some point
  pub has : HasFact point f

-- the system of points and bindings: exactly one bound a fact, and one equation a binding in order
pub record IsSystemOf (gathered : Gathered) (bindings : List Binding) (s : Constraints) : Type 0 where
  pub points : s.points ≡ length gathered.points
  pub facts : length s.bounds ≡ length gathered.ends
  pub bounds : (f : ℕ) (bound : Bound) → slice_get s.bounds f ≡ Some bound → IsBoundOf gathered f bound
  pub equations : AllZip IsEquationOf bindings s.equations
