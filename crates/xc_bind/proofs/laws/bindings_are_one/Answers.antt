use Rattle.xc_bind.proofs.OneAnswer.{one_answer}
use Rattle.xc_bind.proofs.laws.bindings_are_one.Goals as goal

pub returns : goal.returns
returns c = one_answer
