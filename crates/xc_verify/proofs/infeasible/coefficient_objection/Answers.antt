use Rattle.std.proofs.Common.{Result, sym, subst}
use Rattle.xc_frac.specs.declared.wide.Wide.{Wide}
use Rattle.xc_model.specs.Ratio.{Ratio}
use Rattle.xc_verify.specs.Sums.{IsSumOf}
use Rattle.xc_verify.proofs.infeasible.coefficient_objection.Goals as goal

pub returns : goal.returns
returns c ts h = record { end = c.sum_at.result; sum = subst (λ (r : Result Ratio Wide). IsSumOf ts r) (sym c.sum_at.ensures) h; is_met = c.objection_unless_zero.ensures }
