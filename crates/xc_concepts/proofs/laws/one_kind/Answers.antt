use Rattle.xc_concepts.proofs.OneChain.{one_kind}
use Rattle.xc_concepts.proofs.laws.one_kind.Goals as goal

pub returns : goal.returns
returns c = one_kind
