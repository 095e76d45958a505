use Rattle.xc_system.proofs.Links.{has_within}
use Rattle.xc_system.proofs.Parts.{point_within}
use Rattle.xc_system.proofs.laws.equations_name_points.Goals as goal

pub returns-clause-equations : goal.returns-clause-equations
returns-clause-equations c = has_within

pub returns-clause-points : goal.returns-clause-points
returns-clause-points c = point_within
