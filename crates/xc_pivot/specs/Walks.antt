-- What a walk tells of a problem.
use Rattle.std.specs.Prelude.{◌≡◌, ◌<◌, ◌≤◌, ◌==◌, ℕ, Bool, false, List, length, Some, slice_get, All}
use Rattle.std.specs.List.{list_any}
use Rattle.std.specs.List.Sorted.{IsStrictlySortedBy}
use Rattle.std.specs.Ordering.{nat_cmp}
use Rattle.xc_corners.specs.Choices.{IsReached, IsReachedBy, IsLast}
use Rattle.xc_corners.specs.Corners.{Corner, Factors, CornerLists, corner_of}
use Rattle.xc_corners.specs.Operations.{PassesAt}
use Rattle.xc_corners.specs.WholeNumbers.{whole_problem}
use Rattle.xc_corners.specs.declared.problem.Problem.{Problem}
use Rattle.xc_frac.specs.declared.wide.Wide.{Wide}
use Rattle.xc_pivot.specs.States.{ArePlaces, IsShaped, IsAt, HasNoChoice}
use Rattle.xc_pivot.specs.declared.types.Outcome.{Outcome}
use Rattle.xc_pivot.specs.declared.types.Outcome.TheVariants.{Feasible, Infeasible, TooWide as Stopped}
use Rattle.xc_pivot.specs.declared.types.Place.{Place}
use Rattle.xc_pivot.specs.declared.types.State.{State}
use Rattle.xc_pivot.specs.declared.types.Walk.{Walk}
use Rattle.xc_pivot.specs.declared.types.Walk.TheVariants.{Last, TooWide}

-- no operation passes at a corner of the run
abbrev pub NothingPasses : Problem → Type 0
NothingPasses problem = (x : Corner) (w : Wide) → IsReached (whole_problem problem) x → ¬ PassesAt problem x w

-- the lists tell the last corner of the run
abbrev pub IsLastCorner : Problem → CornerLists → Type 0
IsLastCorner problem lists = IsLast (whole_problem problem) (corner_of lists)

-- the lists tell a corner of the run, at which w passes
abbrev pub IsTooWideAt : Problem → CornerLists → Wide → Type 0
IsTooWideAt problem lists w = IsReached (whole_problem problem) (corner_of lists) × PassesAt problem (corner_of lists) w

-- the lists tell the corner of the places
abbrev pub TellsCorner : List Place → CornerLists → Type 0
TellsCorner places lists = (m n : ℕ) (x : Corner) → ArePlaces m n x places → corner_of lists ≡ x

-- of a walk to the last corner
abbrev pub IfLast : (CornerLists → Type 0) → Walk → Type 0
IfLast P (Last lists) = P lists
IfLast P (TooWide lists w) = Unit {0}

-- of one that came to an operation that passes
abbrev pub IfTooWide : (CornerLists → Wide → Type 0) → Walk → Type 0
IfTooWide P (Last lists) = Unit {0}
IfTooWide P (TooWide lists w) = P lists w

-- the state is that of the last corner, and nothing passes
pub record EndsAtLast (problem : Problem) (s : State) : Type 0 where
  pub shaped : IsShaped problem s
  pub corner : Corner
  pub factors : Factors
  pub at : IsAt problem s corner factors
  pub none : HasNoChoice (whole_problem problem) corner factors
  pub last : IsLast (whole_problem problem) corner
  pub nothing : NothingPasses problem

-- the places tell a corner of the run at which w passes
pub record EndsTooWide (problem : Problem) (places : List Place) (w : Wide) : Type 0 where
  pub corner : Corner
  pub placed : ArePlaces (length problem.rows) (length problem.ranges) corner places
  pub reached : IsReached (whole_problem problem) corner
  pub passes : PassesAt problem corner w

-- the answer is the corner of the places, with the operation
abbrev pub IsStop : List Place → Wide → Outcome → Type 0
IsStop places w (Feasible values) = ⊥
IsStop places w (Infeasible m) = ⊥
IsStop places w (Stopped lists v) = TellsCorner places lists × (w ≡ v)

-- a corner of the run that the state stands for, after some turns; at none before it an operation passes
pub record AtTurn (problem : Problem) (turns : ℕ) (s : State) : Type 0 where
  pub corner : Corner
  pub factors : Factors
  pub at : IsAt problem s corner factors
  pub reached : IsReachedBy (whole_problem problem) turns corner
  pub before : (k : ℕ) (y : Corner) (w : Wide) → k < turns → IsReachedBy (whole_problem problem) k y → ¬ PassesAt problem y w

-- the list has, ascending, the numbers below n whose places pass the test
pub record IsListOf (test : Place → Bool) (places : List Place) (n : ℕ) (list : List ℕ) : Type 0 where
  pub ascends : IsStrictlySortedBy nat_cmp list
  pub below : All (λ k. k < n) list
  pub tells : (j : ℕ) (place : Place) → j < n → slice_get places j ≡ Some place → list_any (λ k. k == j) list ≡ test place
  pub after : (j : ℕ) → n ≤ j → list_any (λ k. k == j) list ≡ false
