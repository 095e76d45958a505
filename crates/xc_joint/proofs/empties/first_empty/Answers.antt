use Rattle.std.proofs.Common.{◌<◌, ℕ, List, length, get_or, ap, subst, sym, arith}
use Rattle.xc_joint.proofs.EmptyPoints.{found_first, none_in}
use Rattle.xc_joint.specs.Causes.{IsEmptyPoint}
use Rattle.xc_joint.proofs.empties.first_empty.Goals as goal

pub empty_at-requires : goal.empty_at-requires
empty_at-requires c = subst (λ (ps : List ℕ). get_or ps c.loop-point.point-index 0 < c.args.system.now.points) (sym c.as_slice-point-items.ensures)
    (c.components_are_closed.ensures.points c.args.system.now c.args.component.now c.requires c.loop-point.point-index 0 (subst (λ (ps : List ℕ). c.loop-point.point-index < length ps) c.as_slice-point-items.ensures c.loop-point-test.true))

pub returns-in-Some-clause-some : goal.returns-in-Some-clause-some
returns-in-Some-clause-some c = found_first c.args.system.now c.args.component.now c.requires c.as_slice-point-items.result.now c.as_slice-point-items.ensures c.loop-point.point-index c.loop-point-test.true c.loop-point.invariant c.in-Some.found c.in-Some.ensures.some

pub returns-clause-none : goal.returns-clause-none
returns-clause-none c = none_in (IsEmptyPoint c.args.system.now) c.args.component.now.points (λ i h. c.loop-point.invariant i (omega (arith, h, c.loop-point-test.false, ap (λ (ps : List ℕ). length ps) c.as_slice-point-items.ensures)))
