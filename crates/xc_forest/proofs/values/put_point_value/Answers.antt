use Rattle.std.proofs.Common.{arith}
use Rattle.xc_forest.proofs.Undoings.{point_row_known, point_known, can_split, point_back}
use Rattle.xc_forest.proofs.values.put_point_value.Goals as goal

pub index-requires : goal.index-requires
index-requires g c = omega (arith, point_row_known g.E.Exact.parts c.args.forest.now c.args.links.now c.requires.listing c.args.undos.now c.args.point c.args.row c.args.minus c.args.of_row c.args.of_point c.args.values.now.items c.requires.settled, c.args.values.now.ok.0)

pub split-row_value-requires : goal.split-row_value-requires
split-row_value-requires g c = can_split g.E.Exact.parts c.args.forest.now c.args.links.now c.requires.listing c.args.undos.now c.args.point c.args.row c.args.minus c.args.of_row c.args.of_point c.args.values.now.items c.requires.settled c.index.result.now c.index.ensures g.E.Exact.passes c.requires.room

pub index_mut-requires : goal.index_mut-requires
index_mut-requires g c = omega (arith, point_row_known g.E.Exact.parts c.args.forest.now c.args.links.now c.requires.listing c.args.undos.now c.args.point c.args.row c.args.minus c.args.of_row c.args.of_point c.args.values.now.items c.requires.settled, c.args.values.now.ok.0)

pub index_mut-requires-2 : goal.index_mut-requires-2
index_mut-requires-2 g c = omega (arith, point_known g.E.Exact.parts c.args.forest.now c.args.links.now c.requires.listing c.args.undos.now c.args.point c.args.row c.args.minus c.args.of_row c.args.of_point c.args.values.now.items c.requires.settled, c.args.values.now.ok.0)

pub returns : goal.returns
returns g c = point_back g.E.Exact.parts c.args.forest.now c.args.links.now c.requires.listing c.args.undos.now c.args.point c.args.row c.args.minus c.args.of_row c.args.of_point c.args.values.now.items c.requires.settled c.index.result.now c.index.ensures c.split-row_value.result.0 c.split-row_value.result.1 c.split-row_value.ensures
