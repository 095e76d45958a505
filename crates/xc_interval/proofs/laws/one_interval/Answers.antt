use Rattle.xc_interval.proofs.OneInterval.{one_interval}
use Rattle.xc_interval.proofs.laws.one_interval.Goals as goal

pub returns : goal.returns
returns c = one_interval c.lowest_terms.ensures.unique
