use Rattle.std.proofs.Common.{refl, true, false, inl, inr, arith}
use Rattle.xc_corners.specs.WholeNumbers.{whole_problem}
use Rattle.xc_pivot.specs.declared.types.Place.TheVariants.{Row, High, Low}
use Rattle.xc_pivot.proofs.Placed.{read_at, place_at, row_inside, column_other, other_value}
use Rattle.xc_pivot.proofs.quotients.value_of.Goals as goal

pub index-requires-in-Row : goal.index-requires-in-Row
index-requires-in-Row c =
    let s = c.args.state.now in
    let here = place_at s.places.items c.args.variable c.index.result.now (Row c.in-Row.row) c.requires.variable c.index.ensures c.in-Row.is in
    omega (arith, row_inside c.args.problem.now s c.args.variable c.in-Row.row c.requires.shaped here, c.requires.shaped.values, s.values.ok.0)

pub returns-in-Row : goal.returns-in-Row
returns-in-Row c = record {
  value = λ x t at.
      let s = c.args.state.now in
      let here = place_at s.places.items c.args.variable c.index.result.now (Row c.in-Row.row) c.requires.variable c.index.ensures c.in-Row.is in
      let there = read_at s.values.items s.values.items c.in-Row.row c.index-in-Row.result.now refl (omega (arith, row_inside c.args.problem.now s c.args.variable c.in-Row.row c.requires.shaped here, c.requires.shaped.values)) c.index-in-Row.ensures in
      at.values c.args.variable c.in-Row.row c.index-in-Row.result.now here there;
}

pub returns-in-Low : goal.returns-in-Low
returns-in-Low c = record {
  value = λ x t at.
      let s = c.args.state.now in
      let here = place_at s.places.items c.args.variable c.index.result.now (Low c.in-Low.field-0) c.requires.variable c.index.ensures c.in-Low.is in
      other_value c.values_at_corners.ensures.others (whole_problem c.args.problem.now) x t c.args.variable false c.low_of.result at.solved.positive (column_other _ _ x s.places.items c.args.variable c.in-Low.field-0 at.placed (inl here)) (at.placed.high c.args.variable (Low c.in-Low.field-0) here) c.low_of.ensures.low;
}

pub returns-in-High : goal.returns-in-High
returns-in-High c = record {
  value = λ x t at.
      let s = c.args.state.now in
      let here = place_at s.places.items c.args.variable c.index.result.now (High c.in-High.field-0) c.requires.variable c.index.ensures c.in-High.is in
      other_value c.values_at_corners.ensures.others (whole_problem c.args.problem.now) x t c.args.variable true c.high_of.result at.solved.positive (column_other _ _ x s.places.items c.args.variable c.in-High.field-0 at.placed (inr here)) (at.placed.high c.args.variable (High c.in-High.field-0) here) c.high_of.ensures.high;
}
