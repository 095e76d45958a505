use Rattle.xc_points.proofs.Spreading.{AreSpread}
use Rattle.xc_points.proofs.groups.members_by_first.Given as goal

abbrev pub invariant-loop-fact : goal.invariant-loop-fact
invariant-loop-fact l = AreSpread l.firsts l.fact l.members.items
