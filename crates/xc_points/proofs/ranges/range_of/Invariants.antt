use Rattle.xc_points.proofs.RangesOfFacts.{IsRangeSoFar}
use Rattle.xc_points.proofs.ranges.range_of.Given as goal

abbrev pub invariant-loop-fact : goal.invariant-loop-fact
invariant-loop-fact l = IsRangeSoFar l.ends l.first l.others l.fact-index l.range
