use Rattle.xc_verify.proofs.Refusing.{contradiction_accepted, solved_accepted}
use Rattle.xc_verify.proofs.laws.proofs_are_accepted.Goals as goal

pub returns-clause-solutions : goal.returns-clause-solutions
returns-clause-solutions c = solved_accepted

pub returns-clause-contradictions : goal.returns-clause-contradictions
returns-clause-contradictions c = contradiction_accepted
