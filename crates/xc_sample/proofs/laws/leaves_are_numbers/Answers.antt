use Rattle.xc_sample.proofs.NodeValues.{leaf}
use Rattle.xc_sample.proofs.laws.leaves_are_numbers.Goals as goal

pub returns : goal.returns
returns c = λ n i less none. leaf n n i none
