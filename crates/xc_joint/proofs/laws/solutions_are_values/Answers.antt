use Rattle.xc_joint.proofs.ProblemValues.{solution_values}
use Rattle.xc_joint.proofs.TightestRanges.{unwide_known}
use Rattle.xc_joint.proofs.laws.solutions_are_values.Goals as goal

pub returns : goal.returns
returns c = λ s part is none problem of xs solves. solution_values c.tighter_ends.ensures.low_numbers c.tighter_ends.ensures.high_numbers s part is (unwide_known s part none) problem of xs solves
