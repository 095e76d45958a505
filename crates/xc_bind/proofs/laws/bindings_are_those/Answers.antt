use Rattle.xc_bind.proofs.Judging.{are_bindings}
use Rattle.xc_bind.proofs.laws.bindings_are_those.Goals as goal

pub returns : goal.returns
returns c = are_bindings
