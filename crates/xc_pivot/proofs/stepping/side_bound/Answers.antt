use Rattle.std.proofs.Common.{refl, true, false}
use Rattle.xc_corners.specs.WholeNumbers.{whole_problem}
use Rattle.xc_pivot.specs.declared.types.Place.TheVariants.{High, Low}
use Rattle.xc_pivot.proofs.Placed.{read_at, place_at, column_within, column_other, on_low, other_value}
use Rattle.xc_pivot.proofs.stepping.side_bound.Goals as goal

pub returns-in-High : goal.returns-in-High
returns-in-High c = record {
  value = λ x t at.
      let s = c.args.state.now in
      let q = c.args.choice.now.entering.variable in
      let here = place_at s.places.items q c.index.result.now (High c.in-High.field-0) (column_within s.places.items q c.args.choice.now.entering.column c.requires.chosen.column) c.index.ensures c.in-High.is in
      other_value c.values_at_corners.ensures.others (whole_problem c.args.problem.now) x t q true c.high_of.result at.solved.positive (column_other _ _ x s.places.items q c.args.choice.now.entering.column at.placed c.requires.chosen.column) (at.placed.high q (High c.in-High.field-0) here) c.high_of.ensures.high;
}

pub returns-in_default : goal.returns-in_default
returns-in_default c = record {
  value = λ x t at.
      let s = c.args.state.now in
      let q = c.args.choice.now.entering.variable in
      let column = c.args.choice.now.entering.column in
      let there = read_at s.places.items s.places.items q c.index.result.now refl (column_within s.places.items q c.args.choice.now.entering.column c.requires.chosen.column) c.index.ensures in
      let low = on_low s.places.items q column c.index.result.now there c.in_default.not-High c.requires.chosen.column in
      other_value c.values_at_corners.ensures.others (whole_problem c.args.problem.now) x t q false c.low_of.result at.solved.positive (column_other _ _ x s.places.items q column at.placed c.requires.chosen.column) (at.placed.high q (Low column) low) c.low_of.ensures.low;
}
