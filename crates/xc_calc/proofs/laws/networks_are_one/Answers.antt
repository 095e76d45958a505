use Rattle.xc_calc.proofs.OneAnswer.{one_answer}
use Rattle.xc_calc.proofs.laws.networks_are_one.Goals as goal

pub returns : goal.returns
returns c = one_answer
