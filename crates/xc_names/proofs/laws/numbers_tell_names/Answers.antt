use Rattle.xc_names.proofs.Found.{numbers_tell_names}
use Rattle.xc_names.proofs.laws.numbers_tell_names.Goals as goal

pub returns : goal.returns
returns c = numbers_tell_names
