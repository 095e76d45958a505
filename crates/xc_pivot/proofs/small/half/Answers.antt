use Rattle.std.proofs.Common.{sym, subst}
use Rattle.std.specs.Prelude.{Option, IfOk, IfErr}
use Rattle.xc_model.specs.Ratio.{Ratio}
use Rattle.xc_pivot.specs.SmallValues.{IsHalfOf, PassesHalf}
use Rattle.xc_pivot.proofs.Smalls.{half_is, half_passes}
use Rattle.xc_pivot.proofs.small.half.Goals as goal

pub returns-in-Some-clause-is : goal.returns-in-Some-clause-is
returns-in-Some-clause-is c = subst (λ (o : Option Ratio). IfOk c.div.result (IsHalfOf o)) (sym c.in-Some.is) (half_is c.in-Some.number c.two.result c.two.ensures c.div.result c.div.ensures.exact)

pub returns-in-Some-clause-passes : goal.returns-in-Some-clause-passes
returns-in-Some-clause-passes c = subst (λ (o : Option Ratio). IfErr c.div.result (PassesHalf o)) (sym c.in-Some.is) (half_passes c.in-Some.number c.two.result c.two.ensures c.div.result c.div.ensures.operands c.div.ensures.passes)
