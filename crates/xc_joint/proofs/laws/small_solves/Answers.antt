use Rattle.xc_joint.proofs.Between.{small_solves}
use Rattle.xc_joint.proofs.laws.small_solves.Goals as goal

pub returns : goal.returns
returns c = small_solves
