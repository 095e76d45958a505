use Rattle.std.proofs.Common.{subst, sym, ◌<◌}
use Rattle.xc_corners.specs.WholeNumbers.{whole_problem}
use Rattle.xc_pivot.proofs.Leasts.{merged, with_stay, passes_small}
use Rattle.xc_pivot.proofs.quotients.with_quotient.Goals as goal

pub returns-in-Ok-clause-is : goal.returns-in-Ok-clause-is
returns-in-Ok-clause-is c x t seen at least =
    merged (whole_problem c.args.problem.now) x t seen c.args.high c.args.variable (subst (λ n. c.args.variable < n) (sym (c.problems_are_whole.ensures.variables c.args.problem.now).0) c.requires.variable)
    c.args.least c.in-Ok.own c.lesser.result least (c.in-Ok.ensures.is x t at) c.lesser.ensures

pub returns-in-Ok-clause-stays : goal.returns-in-Ok-clause-stays
returns-in-Ok-clause-stays c x t seen at stay = with_stay (whole_problem c.args.problem.now) x t seen c.args.high c.args.variable stay (c.in-Ok.ensures.stays x t at)

pub returns-in-Err-clause-passes : goal.returns-in-Err-clause-passes
returns-in-Err-clause-passes c x t at =
    passes_small (whole_problem c.args.problem.now) x t c.args.high c.args.variable c.in-Err.wide (subst (λ n. c.args.variable < n) (sym (c.problems_are_whole.ensures.variables c.args.problem.now).0) c.requires.variable) (c.in-Err.ensures.passes x t at)
