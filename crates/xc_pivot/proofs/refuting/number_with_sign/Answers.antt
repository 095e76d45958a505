use Rattle.std.proofs.Common.{Bool, sym, subst}
use Rattle.xc_corners.specs.Conflicts.{opposite_if}
use Rattle.xc_model.specs.Ratio.{IsOver}
use Rattle.xc_pivot.proofs.refuting.number_with_sign.Goals as goal

pub returns-then-is_turned : goal.returns-then-is_turned
returns-then-is_turned c n d o = subst (λ (b : Bool). IsOver c.neg.result (opposite_if b n) d) (sym c.if-is_turned.true) (c.neg.ensures.over n d o)
