use Rattle.xc_decimal.proofs.ItsNumber.{its_number}
use Rattle.xc_decimal.proofs.laws.spells_its_number.Goals as goal

pub returns : goal.returns
returns c = its_number
