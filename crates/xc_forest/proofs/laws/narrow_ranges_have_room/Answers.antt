use Rattle.xc_forest.proofs.Widths.{narrow_room}
use Rattle.xc_forest.proofs.laws.narrow_ranges_have_room.Goals as goal

pub returns : goal.returns
returns g c = narrow_room g.E.Exact.parts g.E.Exact.passes c.sums_have_room.ensures.sums c.sums_have_room.ensures.differences
