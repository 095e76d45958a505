use Rattle.std.proofs.Common.{take}
use Rattle.xc_bind.proofs.Owning.{AreEntriesSoFar}
use Rattle.xc_bind.proofs.constraints.equation_of.Given as goal

abbrev pub invariant-loop-term : goal.invariant-loop-term
invariant-loop-term l = AreEntriesSoFar l.binding.total (take l.term-index l.binding.terms) l.entries.items
