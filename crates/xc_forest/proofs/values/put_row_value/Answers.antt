use Rattle.std.proofs.Common.{arith}
use Rattle.xc_forest.proofs.Undoings.{row_known, row_point_known, row_back}
use Rattle.xc_forest.proofs.values.put_row_value.Goals as goal

pub index-requires : goal.index-requires
index-requires g c = omega (arith, row_point_known g.E.Exact.parts c.args.forest.now c.args.links.now c.requires.listing c.args.undos.now c.args.row c.args.point c.args.minus c.args.low_of_row c.args.high_of_row c.args.values.now.items c.requires.settled, c.args.values.now.ok.0)

pub index_mut-requires : goal.index_mut-requires
index_mut-requires g c = omega (arith, row_known g.E.Exact.parts c.args.forest.now c.args.links.now c.requires.listing c.args.undos.now c.args.row c.args.point c.args.minus c.args.low_of_row c.args.high_of_row c.args.values.now.items c.requires.settled, c.args.values.now.ok.0)

pub returns : goal.returns
returns g c = row_back g.E.Exact.parts c.args.forest.now c.args.links.now c.requires.listing c.args.undos.now c.args.row c.args.point c.args.minus c.args.low_of_row c.args.high_of_row c.args.values.now.items c.requires.settled c.index.result.now c.value_with_sign.result c.index.ensures c.value_with_sign.ensures
