use Rattle.std.proofs.Common.{take}
use Rattle.xc_bind.specs.Steps.Grouped.{AreGrouped}
use Rattle.xc_bind.proofs.arcs_from.ArcsFrom.of.Given as goal

-- the lists have the arcs so far
abbrev pub invariant-loop-arc : goal.invariant-loop-arc
invariant-loop-arc l = AreGrouped l.lists (take l.arc-index l.arcs)
