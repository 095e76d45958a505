use Rattle.xc_points.proofs.Spreading.{AreNone}
use Rattle.xc_points.proofs.groups.no_members.Given as goal

abbrev pub invariant-loop-first : goal.invariant-loop-first
invariant-loop-first l = AreNone l.firsts l._first-index l.none.items
