use Rattle.std.proofs.Common.{take}
use Rattle.xc_calc.specs.Steps.Groups.{AreGroups}
use Rattle.xc_calc.proofs.effective.groups_of.Given as goal

-- the groups are those of the arcs so far
abbrev pub invariant-loop-at : goal.invariant-loop-at
invariant-loop-at l = AreGroups l.groups (take l.at l.arcs)
