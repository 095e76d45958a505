use Rattle.std.specs.Prelude.{map}
use Rattle.xc_joint.proofs.EmptyPoints.{meets_not_empty}
use Rattle.xc_system.specs.Systems.{facts_of, range_at}
use Rattle.xc_joint.proofs.empties.empty_at.Goals as goal

pub returns-in-Meets-clause-none : goal.returns-in-Meets-clause-none
returns-in-Meets-clause-none c = meets_not_empty c.one_range.ensures (map (range_at c.args.system.now.bounds) (facts_of c.args.system.now.bounds c.args.point)) c.spot-spot.result.range c.in-Meets.field-0 c.spot-spot.ensures.range c.in-Meets.is
