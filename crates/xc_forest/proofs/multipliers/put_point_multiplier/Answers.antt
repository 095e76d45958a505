use Rattle.std.proofs.Common.{◌≡◌, arith, ap, ◌∙◌, not, pos}
use Rattle.std.proofs.lemmas.List.{get_or_read}
use Rattle.xc_forest.specs.Forests.{IsUnit, multiplier_at, number_with_sign}
use Rattle.xc_forest.proofs.Refutings.{point_row_known, point_known, point_back, cast_unit, turn_unit}
use Rattle.xc_forest.proofs.multipliers.put_point_multiplier.Goals as goal

pub index-by-requires : goal.index-by-requires
index-by-requires g c = omega (arith, point_row_known g.E.Exact.parts c.args.forest.now c.args.links.now c.requires.listing c.args.undos.now c.args.point c.args.row c.args.minus c.args.of_row c.args.of_point c.args.multipliers.now.items c.requires.refuted, c.args.multipliers.now.ok.0)

pub opposite-requires : goal.opposite-requires
opposite-requires g c =
    let by_is : c.index-by.result.now ≡ multiplier_at c.args.multipliers.now.items c.args.row = get_or_read c.args.multipliers.now.items c.args.row c.index-by.result.now (point_row_known g.E.Exact.parts c.args.forest.now c.args.links.now c.requires.listing c.args.undos.now c.args.point c.args.row c.args.minus c.args.of_row c.args.of_point c.args.multipliers.now.items c.requires.refuted) c.index-by.ensures (pos 0) in
    let unit : IsUnit c.index-by.result.now = rw by_is (c.requires.refuted.refutes.unit c.args.row) in
    rw (cast_unit c.index-by.result.now unit) unit

pub index_mut-requires : goal.index_mut-requires
index_mut-requires g c = omega (arith, point_known g.E.Exact.parts c.args.forest.now c.args.links.now c.requires.listing c.args.undos.now c.args.point c.args.row c.args.minus c.args.of_row c.args.of_point c.args.multipliers.now.items c.requires.refuted, c.args.multipliers.now.ok.0)

pub returns : goal.returns
returns g c =
    let by_is : c.index-by.result.now ≡ multiplier_at c.args.multipliers.now.items c.args.row = get_or_read c.args.multipliers.now.items c.args.row c.index-by.result.now (point_row_known g.E.Exact.parts c.args.forest.now c.args.links.now c.requires.listing c.args.undos.now c.args.point c.args.row c.args.minus c.args.of_row c.args.of_point c.args.multipliers.now.items c.requires.refuted) c.index-by.ensures (pos 0) in
    let unit : IsUnit c.index-by.result.now = rw by_is (c.requires.refuted.refutes.unit c.args.row) in
    let made : c.opposite.result ≡ number_with_sign (not c.args.minus) c.index-by.result.now = c.opposite.ensures ∙ ap (number_with_sign (not c.args.minus)) (cast_unit c.index-by.result.now unit) in
    let fits : IsUnit c.opposite.result = rw made (turn_unit (not c.args.minus) c.index-by.result.now unit) in
    rw (cast_unit c.opposite.result fits) (point_back g.E.Exact.parts c.args.forest.now c.args.links.now c.requires.listing c.args.undos.now c.args.point c.args.row c.args.minus c.args.of_row c.args.of_point c.args.multipliers.now.items c.requires.refuted c.index-by.result.now c.opposite.result by_is made)
