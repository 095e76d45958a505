use Rattle.xc_system.proofs.Tightness.{range_more}
use Rattle.xc_system.proofs.spots.range_of.Goals as goal

pub loop-fact-preserved : goal.loop-fact-preserved
loop-fact-preserved c = range_more c.args.bounds.now c.args.first c.args.others.now c.loop-fact.fact-index c.interval_of-in-loop-fact.result c.loop-fact.range c.narrowed-range.result c.loop-fact-test.true c.interval_of-in-loop-fact.ensures c.narrowed-range.ensures c.loop-fact.invariant
