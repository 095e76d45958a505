use Rattle.xc_joint.proofs.OneKind.{one_kind}
use Rattle.xc_joint.proofs.laws.one_kind.Goals as goal

pub returns : goal.returns
returns c = one_kind c.links_are_equivalences.ensures c.equations_name_points.ensures.equations c.contradictions_exclude.ensures.listed c.contradictions_exclude.ensures.solutions c.contradictions_exclude.ensures.solving c.components_decide.ensures.contradiction
