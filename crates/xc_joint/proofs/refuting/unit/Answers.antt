use Rattle.std.proofs.Common.{Bool, pos, negsuc, sym, subst}
use Rattle.xc_joint.specs.Steps.OneForest.{IsSign}
use Rattle.xc_joint.proofs.Signs.{num_is, den_one}
use Rattle.xc_joint.proofs.refuting.unit.Goals as goal

pub returns-then-minus : goal.returns-then-minus
returns-then-minus c = subst (λ (b : Bool). IsSign b c.ratio.result) (sym c.if-minus.true) (num_is c.ratio.result (negsuc 0) c.ratio.ensures, den_one c.ratio.result (negsuc 0) c.ratio.ensures)

pub returns-else-minus : goal.returns-else-minus
returns-else-minus c = subst (λ (b : Bool). IsSign b c.ratio-else-minus.result) (sym c.if-minus.false) (num_is c.ratio-else-minus.result (pos 1) c.ratio-else-minus.ensures, den_one c.ratio-else-minus.result (pos 1) c.ratio-else-minus.ensures)
