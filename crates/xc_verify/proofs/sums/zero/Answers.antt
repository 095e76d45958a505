use Rattle.xc_verify.specs.Sums.{zero_ratio}
use Rattle.xc_verify.proofs.sums.zero.Goals as goal

pub returns : goal.returns
returns c = c.lowest_terms.ensures.unique c.zero.result zero_ratio (record { cross = c.zero.ensures.real.cross })
