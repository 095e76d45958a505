use Rattle.xc_decimal.proofs.OneShortest.{one_shortest}
use Rattle.xc_decimal.proofs.laws.one_shortest.Goals as goal

pub returns : goal.returns
returns c = one_shortest
