use Rattle.xc_corners.proofs.FeasibleValues.{values_solve}
use Rattle.xc_corners.proofs.SmallNumbers.{small_positive}
use Rattle.xc_corners.proofs.laws.feasible_corners_solve.Goals as goal

pub returns : goal.returns
returns c = record {
  positive = λ problem x t s h at small. small_positive problem x t at.solved s small;
  solves = λ problem x t s values h at small are. values_solve problem h x t at s small values are;
}
