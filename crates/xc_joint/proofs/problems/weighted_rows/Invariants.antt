use Rattle.xc_joint.specs.ComponentProblems.{IsWeightedRow}
use Rattle.xc_joint.proofs.Each.{EachSoFar}
use Rattle.xc_joint.proofs.problems.weighted_rows.Given as goal

abbrev pub invariant-loop-number : goal.invariant-loop-number
invariant-loop-number l = EachSoFar (IsWeightedRow l.system l.component.points) l.component.equations l.number-index l.rows.items
