use Rattle.std.proofs.Common.{◌≡◌, arith, pos}
use Rattle.std.proofs.lemmas.List.{get_or_read}
use Rattle.xc_forest.specs.Forests.{IsUnit, multiplier_at}
use Rattle.xc_forest.specs.Steps.Shares.{IsShare}
use Rattle.xc_forest.proofs.Refutings.{row_known, row_point_known, row_back, cast_unit, unit_share}
use Rattle.xc_forest.proofs.multipliers.put_row_multiplier.Goals as goal

pub index-requires : goal.index-requires
index-requires g c = omega (arith, row_point_known g.E.Exact.parts c.args.forest.now c.args.links.now c.requires.listing c.args.undos.now c.args.row c.args.point c.args.minus c.args.low_of_row c.args.high_of_row c.args.multipliers.now.items c.requires.refuted, c.args.multipliers.now.ok.0)

pub shares-of_point-requires : goal.shares-of_point-requires
shares-of_point-requires g c =
    let by_is : c.index.result.now ≡ multiplier_at c.args.multipliers.now.items c.args.point = get_or_read c.args.multipliers.now.items c.args.point c.index.result.now (row_point_known g.E.Exact.parts c.args.forest.now c.args.links.now c.requires.listing c.args.undos.now c.args.row c.args.point c.args.minus c.args.low_of_row c.args.high_of_row c.args.multipliers.now.items c.requires.refuted) c.index.ensures (pos 0) in
    let unit : IsUnit c.index.result.now = rw by_is (c.requires.refuted.refutes.unit c.args.point) in
    rw (cast_unit c.index.result.now unit) unit

pub index_mut-requires : goal.index_mut-requires
index_mut-requires g c = omega (arith, row_point_known g.E.Exact.parts c.args.forest.now c.args.links.now c.requires.listing c.args.undos.now c.args.row c.args.point c.args.minus c.args.low_of_row c.args.high_of_row c.args.multipliers.now.items c.requires.refuted, c.args.multipliers.now.ok.0)

pub index_mut-requires-2 : goal.index_mut-requires-2
index_mut-requires-2 g c = omega (arith, row_known g.E.Exact.parts c.args.forest.now c.args.links.now c.requires.listing c.args.undos.now c.args.row c.args.point c.args.minus c.args.low_of_row c.args.high_of_row c.args.multipliers.now.items c.requires.refuted, c.args.multipliers.now.ok.0)

pub returns : goal.returns
returns g c =
    let by_is : c.index.result.now ≡ multiplier_at c.args.multipliers.now.items c.args.point = get_or_read c.args.multipliers.now.items c.args.point c.index.result.now (row_point_known g.E.Exact.parts c.args.forest.now c.args.links.now c.requires.listing c.args.undos.now c.args.row c.args.point c.args.minus c.args.low_of_row c.args.high_of_row c.args.multipliers.now.items c.requires.refuted) c.index.ensures (pos 0) in
    let unit : IsUnit c.index.result.now = rw by_is (c.requires.refuted.refutes.unit c.args.point) in
    let share : IsShare c.args.minus c.args.low_of_row c.args.high_of_row c.index.result.now c.shares-of_point.result.0 c.shares-of_point.result.1 = rw (cast_unit c.index.result.now unit) at c.shares-of_point.ensures in
    let units = unit_share share.is_of_row c.args.minus c.index.result.now c.shares-of_point.result.0 c.shares-of_point.result.1 unit share.share in
    rw (cast_unit c.shares-of_point.result.0 units.1, cast_unit c.shares-of_point.result.1 units.2) (row_back g.E.Exact.parts c.args.forest.now c.args.links.now c.requires.listing c.args.undos.now c.args.row c.args.point c.args.minus c.args.low_of_row c.args.high_of_row c.args.multipliers.now.items c.requires.refuted c.index.result.now c.shares-of_point.result.0 c.shares-of_point.result.1 by_is share)
