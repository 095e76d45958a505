use Rattle.xc_verify.proofs.Once.{judgement_once}
use Rattle.xc_verify.proofs.laws.one_judgement.Goals as goal

pub returns : goal.returns
returns c = judgement_once c.lowest_terms.ensures.unique
