use Rattle.std.proofs.Common.{◌≡◌, ◌++◌, drop}
use Rattle.xc_joint.specs.Steps.Multiplied.{named_high_facts}
use Rattle.xc_joint.proofs.refuting.named_high_facts.Given as goal

abbrev pub invariant-loop-number : goal.invariant-loop-number
invariant-loop-number l = l.facts.items ++ named_high_facts (drop l.number l.spans) (drop l.number l.ends) ≡ named_high_facts l.spans l.ends
