use Rattle.std.proofs.Common.{◌<◌, ◌≤◌, length, subst}
use Rattle.xc_joint.specs.Steps.OneForest.{IsRowOf}
use Rattle.xc_joint.proofs.Each.{each_end}
use Rattle.xc_joint.proofs.one_forest.rows.Goals as goal

pub row_of-requires-clause-own : goal.row_of-requires-clause-own
row_of-requires-clause-own c = rw (c.as_slice.ensures, c.as_slice-number-items.ensures) (c.requires.own c.loop-number.number-index 0 (subst (λ xs. c.loop-number.number-index < length xs) c.as_slice-number-items.ensures c.loop-number-test.true))

pub returns : goal.returns
returns c = each_end (IsRowOf c.args.system.now c.args.component.now.points) c.args.component.now.equations c.loop-number.number-index c.loop-number.rows.items c.loop-number.invariant (subst (λ xs. length xs ≤ c.loop-number.number-index) c.as_slice-number-items.ensures c.loop-number-test.false)
