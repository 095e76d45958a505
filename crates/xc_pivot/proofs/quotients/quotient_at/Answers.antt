use Rattle.xc_corners.specs.WholeNumbers.{whole_problem}
use Rattle.xc_pivot.proofs.Margins.{if_answer, if_stays, if_passes}
use Rattle.xc_pivot.proofs.quotients.quotient_at.Goals as goal

pub returns-clause-is : goal.returns-clause-is
returns-clause-is c x t at =
    if_answer (whole_problem c.args.problem.now) x t c.args.high c.args.variable c.limit_of-limit.result c.value_of-value.result at.solved.positive c.limit_of-limit.ensures.limit (c.value_of-value.ensures.value x t at) c.quotient_of.result c.quotient_of.ensures.is

pub returns-clause-stays : goal.returns-clause-stays
returns-clause-stays c x t at =
    if_stays (whole_problem c.args.problem.now) x t c.args.high c.args.variable c.limit_of-limit.result c.value_of-value.result at.solved.positive c.limit_of-limit.ensures.limit (c.value_of-value.ensures.value x t at) c.quotient_of.result c.quotient_of.ensures.is c.quotient_of.ensures.stays

pub returns-clause-passes : goal.returns-clause-passes
returns-clause-passes c x t at =
    if_passes (whole_problem c.args.problem.now) x t c.args.high c.args.variable c.limit_of-limit.result c.value_of-value.result at.solved.positive c.limit_of-limit.ensures.limit (c.value_of-value.ensures.value x t at) c.quotient_of.result c.quotient_of.ensures.passes
