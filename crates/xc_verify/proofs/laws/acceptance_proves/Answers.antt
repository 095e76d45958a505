use Rattle.xc_verify.proofs.Accepting.{acceptance_proves}
use Rattle.xc_verify.proofs.laws.acceptance_proves.Goals as goal

pub returns : goal.returns
returns c = acceptance_proves c.contradictions_exclude.ensures.solutions
