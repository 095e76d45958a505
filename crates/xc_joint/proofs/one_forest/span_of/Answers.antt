use Rattle.xc_joint.proofs.ForestRanges.{met_of}
use Rattle.xc_joint.proofs.one_forest.span_of.Goals as goal

pub returns : goal.returns
returns c =
    let met = met_of c.ranges_have_numbers.ensures c.args.system.now c.args.point c.spot-spot.result.range c.spot-spot.result.low c.spot-spot.result.high c.requires.known c.requires.some c.spot-spot.ensures.range c.spot-spot.ensures.tightest in
    record { known = c.requires.known; some = met.some; low = met.low_first; high = met.high_first }
