use Rattle.xc_joint.proofs.SumSizes.{numbers_have_room}
use Rattle.xc_joint.proofs.laws.narrow_forests_have_numbers.Goals as goal

pub returns : goal.returns
returns c = numbers_have_room
