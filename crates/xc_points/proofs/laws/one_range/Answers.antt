use Rattle.xc_points.proofs.OneRange.{one_range}
use Rattle.xc_points.proofs.laws.one_range.Goals as goal

pub returns : goal.returns
returns c = one_range c.ends_tell.ensures.numbers c.one_interval.ensures
