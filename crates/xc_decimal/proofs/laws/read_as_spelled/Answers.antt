use Rattle.xc_decimal.proofs.ReadAsSpelled.{read_as_spelled}
use Rattle.xc_decimal.proofs.laws.read_as_spelled.Goals as goal

pub returns : goal.returns
returns c = read_as_spelled
