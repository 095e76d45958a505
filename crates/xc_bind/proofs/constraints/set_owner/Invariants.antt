use Rattle.std.proofs.Common.{take}
use Rattle.xc_bind.proofs.Owning.{IsOwned}
use Rattle.xc_bind.proofs.constraints.set_owner.Given as goal

abbrev pub invariant-loop-fact : goal.invariant-loop-fact
invariant-loop-fact l = IsOwned l.fn.owners l.owners (take l.fact-index l.facts) l.number
