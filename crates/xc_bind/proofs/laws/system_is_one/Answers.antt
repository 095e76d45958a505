use Rattle.xc_bind.proofs.OneSystem.{one_system}
use Rattle.xc_bind.proofs.laws.system_is_one.Goals as goal

pub returns : goal.returns
returns c = one_system c.lowest_terms.ensures.unique c.points_are_pairs.ensures.facts c.points_are_pairs.ensures.distinct
