use Rattle.xc_joint.proofs.Solved.{solutions_solve}
use Rattle.xc_joint.proofs.laws.numbers_of_solutions_solve.Goals as goal

pub returns : goal.returns
returns c = solutions_solve
