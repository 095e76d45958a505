use Rattle.std.proofs.Common.{Ok}
use Rattle.xc_verify.proofs.Once.{sum_once}
use Rattle.xc_verify.specs.Sums.{zero_ratio}
use Rattle.xc_verify.proofs.laws.one_sum.Goals as goal

pub returns : goal.returns
returns c ts = sum_once c.lowest_terms.ensures.unique ts (Ok zero_ratio)
