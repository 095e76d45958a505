use Rattle.std.proofs.Common.{ℕ}
use Rattle.std.specs.Prelude.{Err, Ok}
use Rattle.xc_joint.proofs.EquationLoops.{all_there, one_more, one_there}
use Rattle.xc_model.specs.Ratio.{Ratio}
use Rattle.xc_system.specs.Systems.{equation_at}
use Rattle.xc_verify.specs.Feasible.{equation_terms}
use Rattle.xc_verify.specs.Sums.{IsSumOf}
use Rattle.xc_joint.proofs.by_corners.first_passing_operation.Goals as goal

pub returns-in-Err-clause-some : goal.returns-in-Err-clause-some
returns-in-Err-clause-some c = one_there (λ (i : ℕ). IsSumOf (equation_terms c.args.values.now (equation_at c.args.system.now.equations i).entries) (Err c.in-Err.wide))
    c.as_slice-number-items.result.now c.args.component.now.equations c.loop-number.number-index c.as_slice-number-items.ensures c.loop-number-test.true c.in-Err.ensures

pub loop-number-preserved : goal.loop-number-preserved
loop-number-preserved c = one_more (λ (i : ℕ). (x : Ratio) × IsSumOf (equation_terms c.args.values.now (equation_at c.args.system.now.equations i).entries) (Ok x))
    c.as_slice-number-items.result.now c.args.component.now.equations c.loop-number.number-index c.as_slice-number-items.ensures c.loop-number.invariant (c.in_default.field-0, c.in_default.ensures)

pub returns-clause-none : goal.returns-clause-none
returns-clause-none c = all_there (λ (i : ℕ). (x : Ratio) × IsSumOf (equation_terms c.args.values.now (equation_at c.args.system.now.equations i).entries) (Ok x))
    c.as_slice-number-items.result.now c.args.component.now.equations c.loop-number.number-index c.as_slice-number-items.ensures c.loop-number-test.false c.loop-number.invariant
