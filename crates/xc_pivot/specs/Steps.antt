-- What a step to the next corner makes of the values.
use Rattle.std.specs.Prelude.{◌≡◌, ◌≢◌, ◌⊎◌, ◌<◌, ◌&&◌, not, true, false, pos, ℕ, Bool, List, Some, slice_get, slice_set}
use Rattle.xc_corners.specs.Choices.{is_same_pair, corner_after_exchange}
use Rattle.xc_corners.specs.Corners.{low_bound, high_bound, Corner, Factors}
use Rattle.xc_corners.specs.Operations.{Gives, IsFactor, IsValuePart, IsGap, IsStep, IsMove, IsBasic, IsOther, StandsInExchange, StandsInStep, part, passed_bound}
use Rattle.xc_corners.specs.Problems.{WholeProblem}
use Rattle.xc_corners.specs.Tables.{factors_after_exchange}
use Rattle.xc_corners.specs.WholeNumbers.{whole_problem}
use Rattle.xc_corners.specs.declared.problem.Problem.{Problem}
use Rattle.xc_frac.specs.Passes.{Passes}
use Rattle.xc_frac.specs.declared.delta.Delta.{Delta}
use Rattle.xc_frac.specs.declared.wide.Op.TheVariants.{Add, Sub}
use Rattle.xc_frac.specs.declared.wide.Wide.{Wide}
use Rattle.xc_model.specs.Ratio.{Ratio, IsOver}
use Rattle.xc_pivot.specs.Deltas.{of_part, ArePartsOf}
use Rattle.xc_pivot.specs.States.{HasRow, HasColumn, IsAt}
use Rattle.xc_pivot.specs.declared.types.Choice.{Choice}
use Rattle.xc_pivot.specs.declared.types.Place.{Place}
use Rattle.xc_pivot.specs.declared.types.Place.TheVariants.{Row, Low, High}
use Rattle.xc_pivot.specs.declared.types.State.{State}
use Rattle.xc_tableau.specs.Tables.{Table, Has}

module _ (p : WholeProblem) (x : Corner) (t : Factors) (choice : Choice) where
  -- the operation stands in the exchange of the choice, or in its step, and passes
  pub record PassesNext (w : Wide) : Type 0 where
    pub stands : StandsInExchange (IsBasic p x) (IsOther p x) (IsFactor t) choice.leaving.variable choice.entering.variable w ⊎ StandsInStep p x t choice.leaving.above choice.leaving.variable choice.entering.variable w
    pub passes : Passes w.op w.left w.right

  -- the parts of g are those of the gap, and its subtractions do not pass
  pub record IsGapOf (g : Delta Ratio) : Type 0 where
    pub gap : (c : Bool) → IsGap p x t choice.leaving.above choice.leaving.variable c (of_part g c)
    pub stays : (c : Bool) (f v : Ratio) → IsOver f (part c (passed_bound p choice.leaving.above choice.leaving.variable)) p.unit → IsValuePart p x t c choice.leaving.variable v → ¬ Passes Sub f v

  -- the parts of s are those of the step, and the subtractions of the gap do not pass
  pub record IsStepOf (s : Delta Ratio) : Type 0 where
    pub step : (c : Bool) → IsStep p x t choice.leaving.above choice.leaving.variable choice.entering.variable c (of_part s c)
    pub stays : (c : Bool) (f v : Ratio) → IsOver f (part c (passed_bound p choice.leaving.above choice.leaving.variable)) p.unit → IsValuePart p x t c choice.leaving.variable v → ¬ Passes Sub f v

  -- the parts of d are the value of the entering variable, moved by the step, and these additions do not pass
  pub record IsEnteringMoved (d : Delta Ratio) : Type 0 where
    pub value : Delta Ratio
    pub is_value : (c : Bool) → IsValuePart p x t c choice.entering.variable (of_part value c)
    pub step : Delta Ratio
    pub is_step : (c : Bool) → IsStep p x t choice.leaving.above choice.leaving.variable choice.entering.variable c (of_part step c)
    pub gives : (c : Bool) → Gives Add (of_part value c) (of_part step c) (of_part d c)
    pub stays : (c : Bool) → ¬ Passes Add (of_part value c) (of_part step c)

  -- the parts of m are what the step adds to the value of k
  abbrev pub IsMoveOf : ℕ → Delta Ratio → Type 0
  IsMoveOf k m = (c : Bool) → IsMove p x t choice.leaving.above choice.leaving.variable choice.entering.variable k c (of_part m c)

  -- the same of the basic variable k
  pub record IsBasicMoved (k : ℕ) (d : Delta Ratio) : Type 0 where
    pub value : Delta Ratio
    pub is_value : (c : Bool) → IsValuePart p x t c k (of_part value c)
    pub move : Delta Ratio
    pub is_move : (c : Bool) → IsMove p x t choice.leaving.above choice.leaving.variable choice.entering.variable k c (of_part move c)
    pub gives : (c : Bool) → Gives Add (of_part value c) (of_part move c) (of_part d c)
    pub stays : (c : Bool) → ¬ Passes Add (of_part value c) (of_part move c)

  -- the values of the first n rows but the leaving variable's are moved
  abbrev pub AreMoved : List Place → ℕ → List (Delta Ratio) → Type 0
  AreMoved places n values = (k r : ℕ) (d : Delta Ratio) → r < n → r ≢ choice.leaving.row → HasRow places k r → slice_get values r ≡ Some d → IsBasicMoved k d

  -- k is another basic variable, with this row and value
  pub record IsBasicAt (table : Table) (k r : ℕ) (d : Delta Ratio) : Type 0 where
    pub basic : IsBasic p x k
    pub apart : k ≢ choice.leaving.variable
    pub factor : (f : Ratio) → Has table r choice.entering.column f → IsFactor t k choice.entering.variable f
    pub value : (c : Bool) → IsValuePart p x t c k (of_part d c)

  -- these are the values of all other basic variables
  abbrev pub AreBasicAt : Table → List Place → List (Delta Ratio) → Type 0
  AreBasicAt table places values = (k r : ℕ) (d : Delta Ratio) → r ≢ choice.leaving.row → HasRow places k r → slice_get values r ≡ Some d → IsBasicAt table k r d

  -- d is the value of the entering variable
  abbrev pub IsEnteringValue : Delta Ratio → Type 0
  IsEnteringValue d = (c : Bool) → IsValuePart p x t c choice.entering.variable (of_part d c)

-- d is the bound that the leaving variable passed
abbrev pub IsPassedBound : Problem → Choice → Delta Ratio → Type 0
IsPassedBound problem choice d = ArePartsOf (whole_problem problem).unit (passed_bound (whole_problem problem) choice.leaving.above choice.leaving.variable) d

-- where the leaving variable stands afterwards
abbrev pub left_place : Bool → ℕ → Place
left_place true column = High column
left_place false column = Low column

-- it is on its high side
abbrev pub is_left_high : Problem → Choice → Bool
is_left_high problem choice = choice.leaving.above && not (is_same_pair (low_bound (whole_problem problem) choice.leaving.variable) (high_bound (whole_problem problem) choice.leaving.variable))

-- the places afterwards
abbrev pub places_after_exchange : Problem → Choice → List Place → List Place
places_after_exchange problem choice places = slice_set (slice_set places choice.leaving.variable (left_place (is_left_high problem choice) choice.entering.column)) choice.entering.variable (Row choice.leaving.row)

-- what a choice says without the corner: the row of the leaving variable, the column of the entering one, and that their factor is not 0
pub record IsChosen (s : State) (choice : Choice) : Type 0 where
  pub row : HasRow s.places.items choice.leaving.variable choice.leaving.row
  pub column : HasColumn s.places.items choice.entering.variable choice.entering.column
  pub some : (f : Ratio) → Has s.table choice.leaving.row choice.entering.column f → f.num ≢ pos 0

-- the state is that of the next corner
abbrev pub IsAtNext : Problem → State → Corner → Factors → Choice → Type 0
IsAtNext problem s x t choice = IsAt problem s (corner_after_exchange (whole_problem problem) x choice.leaving.above choice.leaving.variable choice.entering.variable) (factors_after_exchange t choice.leaving.variable choice.entering.variable)
