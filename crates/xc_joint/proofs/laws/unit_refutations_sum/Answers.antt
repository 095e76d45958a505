use Rattle.xc_joint.proofs.RefutationSums.{unit_refutations_sum}
use Rattle.xc_joint.proofs.laws.unit_refutations_sum.Goals as goal

pub returns : goal.returns
returns c = unit_refutations_sum c.sums_go_on.ensures
