use Rattle.xc_joint.specs.Steps.Multiplied.{IsListed}
use Rattle.xc_joint.proofs.Each.{EachSoFar}
use Rattle.xc_joint.proofs.refuting.fact_lines.Given as goal

abbrev pub invariant-loop-fact : goal.invariant-loop-fact
invariant-loop-fact l = EachSoFar IsListed l.facts l.fact-index l.listed.items
