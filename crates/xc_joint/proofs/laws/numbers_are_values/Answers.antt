use Rattle.xc_joint.proofs.PartValues.{are_values}
use Rattle.xc_joint.proofs.laws.numbers_are_values.Goals as goal

pub returns : goal.returns
returns c = are_values c.tighter_ends.ensures.low_numbers c.tighter_ends.ensures.high_numbers
