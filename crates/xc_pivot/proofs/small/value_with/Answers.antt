use Rattle.xc_corners.specs.WholeNumbers.{whole_problem}
use Rattle.xc_pivot.proofs.Smalls.{value_is, value_stays, value_passes, tiny_passes}
use Rattle.xc_pivot.proofs.small.value_with.Goals as goal

pub returns-in-Ok-clause-is : goal.returns-in-Ok-clause-is
returns-in-Ok-clause-is c x t at = value_is (whole_problem c.args.problem.now) x t c.args.variable c.value_of-value.result (c.value_of-value.ensures.value x t at) c.args.small c.in-Ok.product c.in-Ok.ensures.exact c.add.result c.add.ensures.exact

pub returns-in-Ok-clause-stays : goal.returns-in-Ok-clause-stays
returns-in-Ok-clause-stays c x t at = value_stays (whole_problem c.args.problem.now) x t c.args.variable c.value_of-value.result (c.value_of-value.ensures.value x t at) c.args.small c.in-Ok.product c.in-Ok.ensures.exact c.add.result c.add.ensures.fits

pub returns-in-Ok-clause-passes : goal.returns-in-Ok-clause-passes
returns-in-Ok-clause-passes c x t at = value_passes (whole_problem c.args.problem.now) x t c.args.variable c.value_of-value.result (c.value_of-value.ensures.value x t at) c.args.small c.in-Ok.product c.in-Ok.ensures.exact c.add.result c.add.ensures.operands c.add.ensures.passes

pub returns-in-Err-clause-passes : goal.returns-in-Err-clause-passes
returns-in-Err-clause-passes c x t at = tiny_passes (whole_problem c.args.problem.now) x t c.args.variable c.value_of-value.result (c.value_of-value.ensures.value x t at) c.args.small c.in-Err.wide c.in-Err.ensures.operands c.in-Err.ensures.passes
