use Rattle.std.proofs.Common.{length}
use Rattle.xc_corners.specs.WholeNumbers.{whole_problem}
use Rattle.xc_pivot.proofs.Smalls.{small_is, small_stays, small_passes}
use Rattle.xc_pivot.proofs.small.small_number.Goals as goal

pub returns-in-Ok-clause-is : goal.returns-in-Ok-clause-is
returns-in-Ok-clause-is c x t at = small_is (whole_problem c.args.problem.now) x t (length c.args.problem.now.ranges) (c.problems_are_whole.ensures.variables c.args.problem.now).0 c.in-Ok.least c.half.result (c.in-Ok.ensures.is x t at) c.half.ensures.is

pub returns-in-Ok-clause-stays : goal.returns-in-Ok-clause-stays
returns-in-Ok-clause-stays c x t at = small_stays (whole_problem c.args.problem.now) x t (length c.args.problem.now.ranges) (c.problems_are_whole.ensures.variables c.args.problem.now).0 c.in-Ok.least c.half.result (c.in-Ok.ensures.is x t at) (c.in-Ok.ensures.stays x t at) c.half.ensures.is

pub returns-in-Ok-clause-passes : goal.returns-in-Ok-clause-passes
returns-in-Ok-clause-passes c x t at = small_passes (whole_problem c.args.problem.now) x t (length c.args.problem.now.ranges) (c.problems_are_whole.ensures.variables c.args.problem.now).0 c.in-Ok.least c.half.result (c.in-Ok.ensures.is x t at) c.half.ensures.passes
