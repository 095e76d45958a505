use Rattle.xc_joint.proofs.Searched.{is_found}
use Rattle.xc_joint.proofs.one_forest.place_of.Goals as goal

pub unreachable-requires : goal.unreachable-requires
unreachable-requires c = is_found c.args.points.now c.args.point c.binary_search.result c.in-Err.field-0 c.requires.ascend c.requires.there c.binary_search.ensures.position c.in-Err.is
