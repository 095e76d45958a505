use Rattle.xc_interval.proofs.Narrowing.{one_range}
use Rattle.xc_interval.proofs.OneInterval.{one_interval}
use Rattle.xc_interval.proofs.laws.one_range.Goals as goal

pub returns : goal.returns
returns c = one_range (one_interval c.lowest_terms.ensures.unique)
