use Rattle.std.proofs.Common.{rules}
use Rattle.xc_points.proofs.RangesOfFacts.{first_range, next_range, all_ranges}
use Rattle.xc_points.proofs.ranges.range_of.Goals as goal

pub loop-fact-init : goal.loop-fact-init
loop-fact-init c = first_range c.args.ends.now c.args.first c.args.others.now c.interval_at.result c.of-range.result c.interval_at.ensures c.of-range.ensures

pub loop-fact-preserved : goal.loop-fact-preserved
loop-fact-preserved c = search (rules, next_range)

pub returns : goal.returns
returns c = all_ranges c.args.ends.now c.args.first c.args.others.now c.loop-fact.fact-index c.loop-fact.range c.loop-fact.invariant c.loop-fact-test.false
