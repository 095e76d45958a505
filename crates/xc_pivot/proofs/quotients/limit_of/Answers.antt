use Rattle.std.proofs.Common.{Bool, sym, subst}
use Rattle.xc_corners.specs.Operations.{passed_bound}
use Rattle.xc_corners.specs.WholeNumbers.{whole_problem}
use Rattle.xc_pivot.specs.Deltas.{ArePartsOf}
use Rattle.xc_pivot.proofs.quotients.limit_of.Goals as goal

pub returns-then-high : goal.returns-then-high
returns-then-high c = record { limit = subst (λ (s : Bool). ArePartsOf (whole_problem c.args.problem.now).unit (passed_bound (whole_problem c.args.problem.now) s c.args.variable) c.high_of.result) (sym c.if-high.true) c.high_of.ensures.high }

pub returns : goal.returns
returns c = record { limit = subst (λ (s : Bool). ArePartsOf (whole_problem c.args.problem.now).unit (passed_bound (whole_problem c.args.problem.now) s c.args.variable) c.low_of.result) (sym c.if-high.false) c.low_of.ensures.low }
