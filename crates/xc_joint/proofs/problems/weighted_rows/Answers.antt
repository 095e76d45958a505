use Rattle.std.proofs.Common.{◌<◌, ◌≤◌, length, subst}
use Rattle.xc_joint.specs.ComponentProblems.{IsWeightedRow}
use Rattle.xc_joint.proofs.Each.{each_end}
use Rattle.xc_joint.proofs.problems.weighted_rows.Goals as goal

pub weighted_row-requires-clause-own : goal.weighted_row-requires-clause-own
weighted_row-requires-clause-own c = rw (c.as_slice.ensures, c.as_slice-number-items.ensures) (c.requires.own c.loop-number.number-index 0 (subst (λ xs. c.loop-number.number-index < length xs) c.as_slice-number-items.ensures c.loop-number-test.true))

pub returns : goal.returns
returns c = each_end (IsWeightedRow c.args.system.now c.args.component.now.points) c.args.component.now.equations c.loop-number.number-index c.loop-number.rows.items c.loop-number.invariant (subst (λ xs. length xs ≤ c.loop-number.number-index) c.as_slice-number-items.ensures c.loop-number-test.false)
