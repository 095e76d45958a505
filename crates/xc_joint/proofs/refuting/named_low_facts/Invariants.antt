use Rattle.std.proofs.Common.{◌≡◌, ◌++◌, drop}
use Rattle.xc_joint.specs.Steps.Multiplied.{named_low_facts}
use Rattle.xc_joint.proofs.refuting.named_low_facts.Given as goal

abbrev pub invariant-loop-number : goal.invariant-loop-number
invariant-loop-number l = l.facts.items ++ named_low_facts (drop l.number l.spans) (drop l.number l.ends) ≡ named_low_facts l.spans l.ends
