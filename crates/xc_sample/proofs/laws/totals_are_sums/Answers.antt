use Rattle.xc_sample.proofs.NodeValues.{total}
use Rattle.xc_sample.proofs.laws.totals_are_sums.Goals as goal

pub returns : goal.returns
returns c = total
