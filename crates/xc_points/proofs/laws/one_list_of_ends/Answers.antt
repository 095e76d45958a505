use Rattle.xc_points.proofs.OneRange.{one_ends}
use Rattle.xc_points.proofs.laws.one_list_of_ends.Goals as goal

pub returns : goal.returns
returns c = one_ends c.one_interval.ensures
