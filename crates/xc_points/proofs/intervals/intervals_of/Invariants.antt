use Rattle.xc_points.proofs.FactEnds.{AreFirstEnds}
use Rattle.xc_points.proofs.intervals.intervals_of.Given as goal

abbrev pub invariant-loop-fact : goal.invariant-loop-fact
invariant-loop-fact l = AreFirstEnds l.mode l.facts l.fact-index l.ends.items
