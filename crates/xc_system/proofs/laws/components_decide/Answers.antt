use Rattle.xc_system.proofs.Parts.{joined_solve, parts_solved, part_contradicts}
use Rattle.xc_system.proofs.laws.components_decide.Goals as goal

pub returns-clause-joined : goal.returns-clause-joined
returns-clause-joined c = joined_solve

pub returns-clause-parts : goal.returns-clause-parts
returns-clause-parts c = parts_solved

pub returns-clause-contradiction : goal.returns-clause-contradiction
returns-clause-contradiction c = part_contradicts
