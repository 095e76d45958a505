use Rattle.std.proofs.Common.{arith, sym, subst, length}
use Rattle.xc_forest.specs.Forests.{AreRows, HasNoCycle}
use Rattle.xc_joint.specs.Steps.OneForest.{AreRowsOf, IsBounded, IsRowOf}
use Rattle.xc_joint.proofs.Each.{each_length}
use Rattle.xc_joint.proofs.ForestRanges.{are_ranges_of, have_numbers}
use Rattle.xc_joint.proofs.ForestRows.{are_rows, no_cycle, own_points}
use Rattle.xc_joint.proofs.Searched.{at_most}
use Rattle.xc_joint.proofs.one_forest.solve_forest.Goals as goal

pub rows-requires-clause-few : goal.rows-requires-clause-few
rows-requires-clause-few c =
    let few = at_most c.args.component.now.points c.args.system.now.points c.requires.component.points_ascend (c.components_are_closed.ensures.points c.args.system.now c.args.component.now c.requires.component) in
    omega (arith, few, c.requires.small.points)

pub rows-requires-clause-inside : goal.rows-requires-clause-inside
rows-requires-clause-inside c = c.components_are_closed.ensures.equations c.args.system.now c.args.component.now c.requires.component

pub rows-requires-clause-own : goal.rows-requires-clause-own
rows-requires-clause-own c = own_points c.components_are_closed.ensures.own c.equations_name_points.ensures.points c.args.system.now c.args.component.now c.requires.system c.requires.component

pub solve-requires-clause-points : goal.solve-requires-clause-points
solve-requires-clause-points c =
    let few = at_most c.args.component.now.points c.args.system.now.points c.requires.component.points_ascend (c.components_are_closed.ensures.points c.args.system.now c.args.component.now c.requires.component) in
    omega (arith, few, c.requires.small.points, each_length (IsBounded c.args.system.now) c.args.component.now.points c.args.ranges.now c.requires.ranges)

pub solve-requires-clause-few : goal.solve-requires-clause-few
solve-requires-clause-few c =
    let few = at_most c.args.component.now.equations (length c.args.system.now.equations) c.requires.component.equations_ascend (c.components_are_closed.ensures.equations c.args.system.now c.args.component.now c.requires.component) in
    let rows = subst (AreRowsOf c.args.system.now c.args.component.now) (sym c.of.ensures) c.in_ok-rows.ensures in
    omega (arith, few, c.requires.small.equations, each_length (IsRowOf c.args.system.now c.args.component.now.points) c.args.component.now.equations c.of.result rows)

pub solve-requires-clause-rows : goal.solve-requires-clause-rows
solve-requires-clause-rows c =
    let rows = subst (AreRowsOf c.args.system.now c.args.component.now) (sym c.of.ensures) c.in_ok-rows.ensures in
    subst (λ n. AreRows n c.of.result) (sym (each_length (IsBounded c.args.system.now) c.args.component.now.points c.args.ranges.now c.requires.ranges)) (are_rows c.args.system.now c.args.component.now c.of.result c.requires.component rows c.requires.narrow.once)

pub solve-requires-clause-no_cycle : goal.solve-requires-clause-no_cycle
solve-requires-clause-no_cycle c =
    let rows = subst (AreRowsOf c.args.system.now c.args.component.now) (sym c.of.ensures) c.in_ok-rows.ensures in
    subst (λ n. HasNoCycle n c.of.result) (sym (each_length (IsBounded c.args.system.now) c.args.component.now.points c.args.ranges.now c.requires.ranges)) (no_cycle c.args.system.now c.args.component.now c.of.result c.requires.component rows c.requires.narrow.forest)

pub solve-requires-clause-ranges : goal.solve-requires-clause-ranges
solve-requires-clause-ranges c = have_numbers c.ends_tell.ensures.numbers c.args.system.now c.args.component.now.points c.args.ranges.now c.requires.ranges

pub solve-requires-clause-narrow : goal.solve-requires-clause-narrow
solve-requires-clause-narrow c = record { system = c.args.system.now; component = c.args.component.now; narrow = c.requires.narrow.narrow; are = are_ranges_of c.args.system.now c.args.component.now c.args.ranges.now c.requires.ranges }
