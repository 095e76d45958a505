use Rattle.xc_bind.proofs.Solving.{solutions_admit}
use Rattle.xc_bind.proofs.laws.solutions_admit.Goals as goal

pub returns : goal.returns
returns c = solutions_admit
