use Rattle.xc_points.proofs.Pairs.{has_point, has_own_facts, are_distinct}
use Rattle.xc_points.proofs.laws.points_are_pairs.Goals as goal

pub returns-clause-point : goal.returns-clause-point
returns-clause-point c = has_point

pub returns-clause-facts : goal.returns-clause-facts
returns-clause-facts c = has_own_facts

pub returns-clause-distinct : goal.returns-clause-distinct
returns-clause-distinct c = are_distinct
