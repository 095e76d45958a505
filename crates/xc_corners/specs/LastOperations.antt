-- The operations at a corner on the way to an answer: those of the walk, and those that give the values at a feasible corner.
use Rattle.std.specs.Prelude.{ℕ, Bool}
use Rattle.xc_frac.specs.Passes.{Passes}
use Rattle.xc_frac.specs.declared.wide.Wide.{Wide}
use Rattle.xc_corners.specs.Choices.{IsFeasible, IsConflict}
use Rattle.xc_corners.specs.Corners.{Corner, Factors, IsSolvedForm}
use Rattle.xc_corners.specs.Ending.{StandsInSmall, StandsInValues}
use Rattle.xc_corners.specs.Operations.{StandsAt}
use Rattle.xc_corners.specs.WholeNumbers.{whole_problem}
use Rattle.xc_corners.specs.declared.problem.Problem.{Problem}

-- x is feasible, with the solved form t
pub record IsFeasibleAt (problem : Problem) (x : Corner) (t : Factors) : Type 0 where
  pub solved : IsSolvedForm (whole_problem problem) x t
  pub feasible : IsFeasible (whole_problem problem) x t

-- x is a conflict at b, with the solved form t
pub record IsConflictAt (problem : Problem) (x : Corner) (t : Factors) (above : Bool) (b : ℕ) : Type 0 where
  pub solved : IsSolvedForm (whole_problem problem) x t
  pub conflict : IsConflict (whole_problem problem) x t above b

-- w is an operation that stands at corner x on the way to an answer: of the walk, of the small number at a feasible corner, or of the
-- values with it
pub data StandsInSolving (problem : Problem) (x : Corner) (w : Wide) : Type 0 where
  in_walk : StandsAt problem x w → StandsInSolving problem x w
  in_small : (t : Factors) → IsFeasibleAt problem x t → StandsInSmall (whole_problem problem) x t w → StandsInSolving problem x w
  in_values : (t : Factors) → IsFeasibleAt problem x t → StandsInValues (whole_problem problem) x t w → StandsInSolving problem x w

-- w stands there and passes. Its operands are fractions, and so is all on which they rest
pub record PassesInSolving (problem : Problem) (x : Corner) (w : Wide) : Type 0 where
  pub stands : StandsInSolving problem x w
  pub passes : Passes w.op w.left w.right
