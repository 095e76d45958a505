-- What solving tells of a problem.
use Rattle.std.specs.Prelude.{ℕ, Bool, List}
use Rattle.xc_corners.specs.Answers.{Solves, Contradicts}
use Rattle.xc_corners.specs.Choices.{IsReached}
use Rattle.xc_corners.specs.Conflicts.{AreOfConflict}
use Rattle.xc_corners.specs.Corners.{Corner, Factors, CornerLists, corner_of}
use Rattle.xc_corners.specs.Ending.{IsSmallNumber, AreValuesWith}
use Rattle.xc_corners.specs.LastOperations.{IsFeasibleAt, IsConflictAt, PassesInSolving}
use Rattle.xc_corners.specs.WholeNumbers.{whole_problem}
use Rattle.xc_corners.specs.declared.multipliers.Multipliers.{Multipliers}
use Rattle.xc_corners.specs.declared.problem.Problem.{Problem}
use Rattle.xc_frac.specs.declared.wide.Wide.{Wide}
use Rattle.xc_model.specs.Ratio.{Ratio}
use Rattle.xc_pivot.specs.declared.types.Outcome.{Outcome}
use Rattle.xc_pivot.specs.declared.types.Outcome.TheVariants.{Feasible, Infeasible, TooWide}

-- no operation on the way to an answer passes at a corner of the run
abbrev pub NothingStops : Problem → Type 0
NothingStops problem = (x : Corner) (w : Wide) → IsReached (whole_problem problem) x → ¬ PassesInSolving problem x w

-- the values solve the problem, and are those of a feasible corner of the run with its small number
pub record IsSolution (problem : Problem) (values : List Ratio) : Type 0 where
  pub solves : Solves problem values
  pub corner : Corner
  pub reached : IsReached (whole_problem problem) corner
  pub factors : Factors
  pub at : IsFeasibleAt problem corner factors
  pub small : Ratio
  pub is_small : IsSmallNumber (whole_problem problem) corner factors small
  pub are : AreValuesWith (whole_problem problem) corner factors small values
  pub nothing : NothingStops problem

-- the multipliers contradict the problem, and are those of a conflict of the run
pub record IsRefutation (problem : Problem) (m : Multipliers) : Type 0 where
  pub contradicts : Contradicts problem m
  pub corner : Corner
  pub reached : IsReached (whole_problem problem) corner
  pub factors : Factors
  pub above : Bool
  pub variable : ℕ
  pub at : IsConflictAt problem corner factors above variable
  pub are : AreOfConflict (whole_problem problem) corner factors above variable m
  pub nothing : NothingStops problem

-- the lists tell a corner of the run, at which w passes on the way to an answer
abbrev pub StopsAt : Problem → CornerLists → Wide → Type 0
StopsAt problem lists w = IsReached (whole_problem problem) (corner_of lists) × PassesInSolving problem (corner_of lists) w

-- of values
abbrev pub IfFeasible : (List Ratio → Type 0) → Outcome → Type 0
IfFeasible P (Feasible values) = P values
IfFeasible P (Infeasible m) = Unit {0}
IfFeasible P (TooWide lists w) = Unit {0}

-- of multipliers
abbrev pub IfInfeasible : (Multipliers → Type 0) → Outcome → Type 0
IfInfeasible P (Feasible values) = Unit {0}
IfInfeasible P (Infeasible m) = P m
IfInfeasible P (TooWide lists w) = Unit {0}

-- of an operation that passes
abbrev pub IfStopped : (CornerLists → Wide → Type 0) → Outcome → Type 0
IfStopped P (Feasible values) = Unit {0}
IfStopped P (Infeasible m) = Unit {0}
IfStopped P (TooWide lists w) = P lists w
