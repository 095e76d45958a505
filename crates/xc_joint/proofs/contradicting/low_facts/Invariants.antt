use Rattle.std.proofs.Common.{◌≡◌, ◌++◌, drop}
use Rattle.xc_joint.specs.Steps.ProblemRefutations.{low_facts}
use Rattle.xc_joint.proofs.contradicting.low_facts.Given as goal

abbrev pub invariant-loop-span : goal.invariant-loop-span
invariant-loop-span l = l.facts.items ++ low_facts (drop l.span-index l.spans) ≡ low_facts l.spans
