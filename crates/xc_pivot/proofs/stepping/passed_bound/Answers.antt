use Rattle.std.proofs.Common.{Bool, sym, subst}
use Rattle.xc_corners.specs.Operations.{passed_bound}
use Rattle.xc_corners.specs.WholeNumbers.{whole_problem}
use Rattle.xc_pivot.specs.Deltas.{ArePartsOf}
use Rattle.xc_pivot.proofs.stepping.passed_bound.Goals as goal

pub returns-then-choice : goal.returns-then-choice
returns-then-choice c =
    let p = whole_problem c.args.problem.now in
    record { bound = subst (λ (s : Bool). ArePartsOf p.unit (passed_bound p s c.args.choice.now.leaving.variable) c.high_of.result) (sym c.if-choice.true) c.high_of.ensures.high }

pub returns : goal.returns
returns c =
    let p = whole_problem c.args.problem.now in
    record { bound = subst (λ (s : Bool). ArePartsOf p.unit (passed_bound p s c.args.choice.now.leaving.variable) c.low_of.result) (sym c.if-choice.false) c.low_of.ensures.low }
