use Rattle.std.proofs.Common.{◌≡◌, ◌++◌, drop}
use Rattle.xc_joint.specs.Steps.ProblemRefutations.{high_facts}
use Rattle.xc_joint.proofs.contradicting.high_facts.Given as goal

abbrev pub invariant-loop-span : goal.invariant-loop-span
invariant-loop-span l = l.facts.items ++ high_facts (drop l.span-index l.spans) ≡ high_facts l.spans
