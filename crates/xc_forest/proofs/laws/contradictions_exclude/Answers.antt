use Rattle.xc_forest.proofs.Excluding.{exclude}
use Rattle.xc_forest.proofs.laws.contradictions_exclude.Goals as goal

pub returns : goal.returns
returns c = exclude
