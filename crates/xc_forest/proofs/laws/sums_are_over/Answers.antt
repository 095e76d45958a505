use Rattle.xc_forest.proofs.Scales.{parts_below_over}
use Rattle.xc_forest.proofs.laws.sums_are_over.Goals as goal

pub returns : goal.returns
returns c = parts_below_over
