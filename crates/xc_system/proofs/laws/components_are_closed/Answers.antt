use Rattle.xc_system.proofs.Acyclic.{equations_inside, points_inside}
use Rattle.xc_system.proofs.Links.{owned}
use Rattle.xc_system.proofs.laws.components_are_closed.Goals as goal

pub returns-clause-points : goal.returns-clause-points
returns-clause-points c = points_inside

pub returns-clause-equations : goal.returns-clause-equations
returns-clause-equations c = equations_inside

pub returns-clause-own : goal.returns-clause-own
returns-clause-own c = owned
