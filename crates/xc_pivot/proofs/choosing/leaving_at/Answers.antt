use Rattle.std.proofs.Common.{refl, arith}
use Rattle.xc_corners.specs.Corners.{value}
use Rattle.xc_corners.specs.WholeNumbers.{whole_problem}
use Rattle.xc_pivot.specs.declared.types.Place.TheVariants.{Row}
use Rattle.xc_pivot.proofs.Placed.{read_at, place_at, row_inside, outside_of}
use Rattle.xc_pivot.proofs.choosing.leaving_at.Goals as goal

pub index-requires-2 : goal.index-requires-2
index-requires-2 c =
    let s = c.args.state.now in
    let here = place_at s.places.items c.args.variable c.index.result.now (Row c.in-Row.row) c.requires.variable c.index.ensures c.in-Row.is in
    omega (arith, row_inside c.args.problem.now s c.args.variable c.in-Row.row c.requires.shaped here, c.requires.shaped.values, s.values.ok.0)

pub returns-in_default-side_of-clause-none : goal.returns-in_default-side_of-clause-none
returns-in_default-side_of-clause-none c x t at basic =
    let s = c.args.state.now in
    let here = place_at s.places.items c.args.variable c.index.result.now (Row c.in-Row.row) c.requires.variable c.index.ensures c.in-Row.is in
    let there = read_at s.values.items s.values.items c.in-Row.row c.index-2.result.now refl (omega (arith, row_inside c.args.problem.now s c.args.variable c.in-Row.row c.requires.shaped here, c.requires.shaped.values)) c.index-2.ensures in
    c.in_default-side_of.ensures.side t.over (value (whole_problem c.args.problem.now) x t c.args.variable) at.solved.positive (at.values c.args.variable c.in-Row.row c.index-2.result.now here there)

pub returns-clause-row : goal.returns-clause-row
returns-clause-row c = place_at c.args.state.now.places.items c.args.variable c.index.result.now (Row c.in-Row.row) c.requires.variable c.index.ensures c.in-Row.is

pub returns-clause-some : goal.returns-clause-some
returns-clause-some c x t at =
    let s = c.args.state.now in
    let here = place_at s.places.items c.args.variable c.index.result.now (Row c.in-Row.row) c.requires.variable c.index.ensures c.in-Row.is in
    let there = read_at s.values.items s.values.items c.in-Row.row c.index-2.result.now refl (omega (arith, row_inside c.args.problem.now s c.args.variable c.in-Row.row c.requires.shaped here, c.requires.shaped.values)) c.index-2.ensures in
    outside_of c.args.problem.now x t c.args.variable c.in-Some.above (c.in-Some.ensures.side t.over (value (whole_problem c.args.problem.now) x t c.args.variable) at.solved.positive (at.values c.args.variable c.in-Row.row c.index-2.result.now here there))
