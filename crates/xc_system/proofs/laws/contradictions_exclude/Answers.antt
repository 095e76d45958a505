use Rattle.xc_system.proofs.Contradictions.{excludes_passing, excludes_solutions, solving_may_solve}
use Rattle.xc_system.proofs.laws.contradictions_exclude.Goals as goal

pub returns-clause-listed : goal.returns-clause-listed
returns-clause-listed c = excludes_passing

pub returns-clause-solutions : goal.returns-clause-solutions
returns-clause-solutions c = excludes_solutions

pub returns-clause-solving : goal.returns-clause-solving
returns-clause-solving c = solving_may_solve
