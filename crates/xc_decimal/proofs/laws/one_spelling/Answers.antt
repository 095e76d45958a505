use Rattle.xc_decimal.proofs.Spelled.{one_spelling}
use Rattle.xc_decimal.proofs.laws.one_spelling.Goals as goal

pub returns : goal.returns
returns c = one_spelling
