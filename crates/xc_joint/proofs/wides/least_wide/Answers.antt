use Rattle.std.proofs.Common.{◌<◌, ℕ, List, length, get_or, ap, subst, sym, arith}
use Rattle.xc_joint.proofs.WideFacts.{wide_more, wide_of_all}
use Rattle.xc_joint.proofs.wides.least_wide.Goals as goal

pub loop-point-preserved : goal.loop-point-preserved
loop-point-preserved c = wide_more c.args.system.now c.args.component.now c.loop-point.point-index (get_or c.as_slice-point-items.result.now c.loop-point.point-index 0) c.loop-point.least c.wide_at.result c.lesser_number-least.result
    (ap (λ (ps : List ℕ). get_or ps c.loop-point.point-index 0) c.as_slice-point-items.ensures) c.lesser_number-least.ensures c.loop-point.invariant c.wide_at.ensures

pub wide_at-requires : goal.wide_at-requires
wide_at-requires c = subst (λ (ps : List ℕ). get_or ps c.loop-point.point-index 0 < c.args.system.now.points) (sym c.as_slice-point-items.ensures)
    (c.components_are_closed.ensures.points c.args.system.now c.args.component.now c.requires c.loop-point.point-index 0 (subst (λ (ps : List ℕ). c.loop-point.point-index < length ps) c.as_slice-point-items.ensures c.loop-point-test.true))

pub returns : goal.returns
returns c = wide_of_all c.args.system.now c.args.component.now c.loop-point.point-index c.loop-point.least
    (omega (arith, c.loop-point-test.false, ap (λ (ps : List ℕ). length ps) c.as_slice-point-items.ensures))
    (omega (arith, c.loop-point.auto.point-index-end, ap (λ (ps : List ℕ). length ps) c.as_slice-point-items.ensures)) c.loop-point.invariant
