use Rattle.xc_names.proofs.Found.{names_stand_at_numbers}
use Rattle.xc_names.proofs.laws.names_stand_at_numbers.Goals as goal

pub returns : goal.returns
returns c = names_stand_at_numbers
