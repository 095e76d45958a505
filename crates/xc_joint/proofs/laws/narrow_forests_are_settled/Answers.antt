use Rattle.xc_joint.proofs.AlwaysSettled.{narrow_forests_are_settled}
use Rattle.xc_joint.proofs.laws.narrow_forests_are_settled.Goals as goal

pub returns : goal.returns
returns c = narrow_forests_are_settled
