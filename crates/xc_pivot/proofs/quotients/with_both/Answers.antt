use Rattle.std.proofs.Common.{false}
use Rattle.xc_corners.specs.WholeNumbers.{whole_problem}
use Rattle.xc_pivot.specs.Quotients.{with_seen, below_seen}
use Rattle.xc_pivot.proofs.Leasts.{if_both, if_both_stay}
use Rattle.xc_pivot.proofs.quotients.with_both.Goals as goal

pub returns-in-Ok-clause-is : goal.returns-in-Ok-clause-is
returns-in-Ok-clause-is c x t at least =
    if_both (whole_problem c.args.problem.now) x t c.args.variable c.with_quotient-in-Ok.result
    (c.with_quotient-in-Ok.ensures.is x t (with_seen (below_seen c.args.variable) false c.args.variable) at (c.in-Ok.ensures.is x t (below_seen c.args.variable) at least))

pub returns-in-Ok-clause-stays : goal.returns-in-Ok-clause-stays
returns-in-Ok-clause-stays c x t at stay =
    if_both_stay (whole_problem c.args.problem.now) x t c.args.variable c.with_quotient-in-Ok.result
    (c.with_quotient-in-Ok.ensures.stays x t (with_seen (below_seen c.args.variable) false c.args.variable) at (c.in-Ok.ensures.stays x t (below_seen c.args.variable) at stay))
