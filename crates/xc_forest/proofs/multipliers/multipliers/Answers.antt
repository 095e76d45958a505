use Rattle.std.proofs.Common.{◌≡◌, ◌+◌, arith, ap, length}
use Rattle.xc_forest.proofs.Refutings.{cast_unit, clash_first}
use Rattle.xc_forest.proofs.multipliers.multipliers.Goals as goal

pub loop-undo-init : goal.loop-undo-init
loop-undo-init g c =
    let each : length c.in_ok-multipliers.multipliers.items ≡ length c.args.forest.now.ranges + length c.args.forest.now.rows = omega (arith, c.in_ok-multipliers.ensures.each, ap length c.as_slice.ensures, ap length c.as_slice-2.ensures) in
    rw (cast_unit c.args.clash.point_by c.requires.clash.point_unit, cast_unit c.args.clash.row_by c.requires.clash.row_unit) (clash_first g.E.Exact.parts c.args.forest.now c.args.links.now c.requires.listing c.args.undos.items c.args.clash c.requires.clash c.in_ok-multipliers.multipliers.items c.in_ok-multipliers.ensures.zero each)
