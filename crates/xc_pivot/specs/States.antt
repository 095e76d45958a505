-- What the walk keeps, and how it stands for a corner.
use Rattle.std.specs.Prelude.{◌≡◌, ◌⊎◌, ℕ, ◌+◌, ◌*◌, ◌<◌, ◌≤◌, Bool, true, false, List, length, Option, Some, None, slice_get, pos}
use Rattle.xc_corners.specs.Choices.{Leaves, CanEnter, Enters, IsFeasible, IsConflict}
use Rattle.xc_corners.specs.Corners.{low_bound, high_bound, Corner, Factors, IsSolvedForm, value}
use Rattle.xc_corners.specs.Operations.{IsFactor}
use Rattle.xc_corners.specs.Pairs.{◌≺◌, ◌≼◌, times}
use Rattle.xc_corners.specs.Problems.{WholeProblem}
use Rattle.xc_corners.specs.WholeNumbers.{whole_problem}
use Rattle.xc_corners.specs.declared.problem.Problem.{Problem}
use Rattle.xc_frac.specs.declared.delta.Delta.{Delta}
use Rattle.xc_model.specs.Parts.{WholeParts}
use Rattle.xc_model.specs.Ratio.{Ratio}
use Rattle.xc_tableau.specs.Tables.{Table, Has, IsFilled}
use Rattle.xc_pivot.specs.Deltas.{ArePartsOf}
use Rattle.xc_pivot.specs.declared.types.Place.{Place}
use Rattle.xc_pivot.specs.declared.types.Place.TheVariants.{Row, Low, High}
use Rattle.xc_pivot.specs.declared.types.Choice.{Choice}
use Rattle.xc_pivot.specs.declared.types.Entering.{Entering}
use Rattle.xc_pivot.specs.declared.types.Leaving.{Leaving}
use Rattle.xc_pivot.specs.declared.types.State.{State}

-- a variable that has a row is basic
abbrev pub is_row : Place → Bool
is_row (Row r) = true
is_row (Low c) = false
is_row (High c) = false

-- one that has a column may be on its high side
abbrev pub is_high : Place → Bool
is_high (Row r) = false
is_high (Low c) = false
is_high (High c) = true

-- variable j has row r
abbrev pub HasRow : List Place → ℕ → ℕ → Type 0
HasRow places j r = slice_get places j ≡ Some (Row r)

-- variable j has column c
abbrev pub HasColumn : List Place → ℕ → ℕ → Type 0
HasColumn places j c = (slice_get places j ≡ Some (Low c)) ⊎ (slice_get places j ≡ Some (High c))

-- the place is inside a table of m rows and n columns
abbrev pub IsInside : ℕ → ℕ → Place → Type 0
IsInside m n (Row r) = r < m
IsInside m n (Low c) = c < n
IsInside m n (High c) = c < n

-- the places of the variables tell corner x: each row and each column has one variable
pub record ArePlaces (m n : ℕ) (x : Corner) (places : List Place) : Type 0 where
  pub basic : (j : ℕ) (place : Place) → slice_get places j ≡ Some place → x.basic j ≡ is_row place
  pub high : (j : ℕ) (place : Place) → slice_get places j ≡ Some place → x.high j ≡ is_high place
  pub one_row : (i j r : ℕ) → HasRow places i r → HasRow places j r → i ≡ j
  pub one_column : (i j c : ℕ) → HasColumn places i c → HasColumn places j c → i ≡ j
  pub each_row : (r : ℕ) → r < m → (j : ℕ) × HasRow places j r
  pub each_column : (c : ℕ) → c < n → (j : ℕ) × HasColumn places j c
  pub no_others : (j : ℕ) → length places ≤ j → (x.basic j ≡ false) × (x.high j ≡ false)

-- the table has the factors of the solved form
abbrev pub AreFactors : Table → List Place → Factors → Type 0
AreFactors table places t = (i j r c : ℕ) (f : Ratio) → HasRow places i r → HasColumn places j c → Has table r c f → IsFactor t i j f

-- each row has the value of its variable
abbrev pub AreValues : WholeProblem → List (Delta Ratio) → List Place → Corner → Factors → Type 0
AreValues p values places x t = (i r : ℕ) (d : Delta Ratio) → HasRow places i r → slice_get values r ≡ Some d → ArePartsOf (t.over * p.unit) (value p x t i) d

-- a place for each variable, inside the table, and a value for each row
pub record IsShaped (problem : Problem) (s : State) : Type 0 where
  pub filled : IsFilled s.table
  pub rows : s.table.rows ≡ length problem.rows
  pub columns : s.table.columns ≡ length problem.ranges
  pub values : length s.values.items ≡ length problem.rows
  pub places : length s.places.items ≡ length problem.ranges + length problem.rows
  pub inside : (j : ℕ) (place : Place) → slice_get s.places.items j ≡ Some place → IsInside (length problem.rows) (length problem.ranges) place

-- table, values and places are those of corner x with the factors t
pub record IsAt (problem : Problem) (s : State) (x : Corner) (t : Factors) : Type 0 where
  pub solved : IsSolvedForm (whole_problem problem) x t
  pub placed : ArePlaces (length problem.rows) (length problem.ranges) x s.places.items
  pub factors : AreFactors s.table s.places.items t
  pub values : AreValues (whole_problem problem) s.values.items s.places.items x t

-- b is the variable that leaves at x, and this is its row
pub record IsLeaving (p : WholeProblem) (places : List Place) (x : Corner) (t : Factors) (leaving : Leaving) : Type 0 where
  pub leaves : Leaves p x t leaving.above leaving.variable
  pub row : HasRow places leaving.variable leaving.row

-- q is the variable that enters at x, and this is its column
pub record IsEntering (p : WholeProblem) (places : List Place) (x : Corner) (t : Factors) (leaving : Leaving) (entering : Entering) : Type 0 where
  pub enters : Enters p x t leaving.above leaving.variable entering.variable
  pub column : HasColumn places entering.variable entering.column

-- none of the variables below n can enter
abbrev pub NoneEnters : Problem → State → Leaving → ℕ → Type 0
NoneEnters problem s leaving n = (x : Corner) (t : Factors) → IsAt problem s x t → (k : ℕ) → k < n → ¬ CanEnter (whole_problem problem) x t leaving.above leaving.variable k

-- both
pub record IsChoice (p : WholeProblem) (places : List Place) (x : Corner) (t : Factors) (choice : Choice) : Type 0 where
  pub leaving : IsLeaving p places x t choice.leaving
  pub entering : IsEntering p places x t choice.leaving choice.entering

-- there is no choice at x
abbrev pub HasNoChoice : WholeProblem → Corner → Factors → Type 0
HasNoChoice p x t = IsFeasible p x t ⊎ ((above : Bool) × (b : ℕ) × IsConflict p x t above b)

-- a lies between l and h, or below l (false) or above h (true)
abbrev pub IsPastOf : Option Bool → WholeParts → WholeParts → WholeParts → Type 0
IsPastOf None l a h = (l ≼ a) × (a ≼ h)
IsPastOf (Some false) l a h = a ≺ l
IsPastOf (Some true) l a h = h ≺ a

-- the same of the bounds of j, for a value over w times the unit
abbrev pub IsSideOf : Option Bool → Problem → ℕ → ℕ → WholeParts → Type 0
IsSideOf side problem j w a = IsPastOf side (times (pos w) (low_bound (whole_problem problem) j)) a (times (pos w) (high_bound (whole_problem problem) j))
