use Rattle.std.proofs.Common.{◌≡◌, ℕ, List, Some, slice_get, length, sym, ap, subst, ◌∙◌, arith}
use Rattle.std.proofs.lemmas.List.{length-set}
use Rattle.xc_corners.specs.WholeNumbers.{whole_problem}
use Rattle.xc_frac.specs.declared.delta.Delta.{Delta}
use Rattle.xc_model.specs.Ratio.{Ratio}
use Rattle.xc_tableau.specs.Exchanges.{PassesIn}
use Rattle.xc_tableau.specs.Tables.{Table, IsFilled}
use Rattle.xc_tableau.specs.Exchanges.{IsExchanged}
use Rattle.xc_pivot.specs.Steps.{AreMoved, places_after_exchange}
use Rattle.xc_pivot.specs.declared.types.Place.{Place}
use Rattle.xc_pivot.proofs.Exchanges.{next_at, nothing_passes, table_passes}
use Rattle.xc_pivot.proofs.Placed.{row_inside, column_inside, row_within, column_within}
use Rattle.xc_pivot.proofs.Replaced.{inside_next, replaced_count}
use Rattle.xc_pivot.proofs.stepping.exchange.Goals as goal

pub returns-in-Err-clause-passes : goal.returns-in-Err-clause-passes
returns-in-Err-clause-passes c x t at chosen = c.in-Err.ensures.passes x t at

pub returns-in-Err-entering_value-clause-passes : goal.returns-in-Err-entering_value-clause-passes
returns-in-Err-entering_value-clause-passes c x t at chosen = c.in-Err-entering_value.ensures.passes x t at (c.in-Ok.ensures.is x t at)

pub returns-in-Err-move_values-clause-passes : goal.returns-in-Err-move_values-clause-passes
returns-in-Err-move_values-clause-passes c x t at chosen = c.in-Err-move_values.ensures.passes x t at (c.in-Ok.ensures.is x t at)

pub pivot-requires-clause-row : goal.pivot-requires-clause-row
pivot-requires-clause-row c =
    let rows = ap (λ (t : Table). t.rows) c.in_default.ensures.table in
    omega (arith, rows, row_inside c.args.problem.now c.args.state.now c.args.choice.now.leaving.variable c.args.choice.now.leaving.row c.requires.shaped c.requires.chosen.row, c.requires.shaped.rows)

pub pivot-requires-clause-column : goal.pivot-requires-clause-column
pivot-requires-clause-column c =
    let columns = ap (λ (t : Table). t.columns) c.in_default.ensures.table in
    omega (arith, columns, column_inside c.args.problem.now c.args.state.now c.args.choice.now.entering.variable c.args.choice.now.entering.column c.requires.shaped c.requires.chosen.column, c.requires.shaped.columns)

pub returns-in-Err-pivot-clause-passes : goal.returns-in-Err-pivot-clause-passes
returns-in-Err-pivot-clause-passes c x t at chosen =
    let o = c.args.choice.now in
    table_passes c.args.problem.now c.args.state.now x t o c.requires.shaped at chosen (c.requires.shaped.places ∙ sym (c.problems_are_whole.ensures.variables c.args.problem.now).1) c.in-Err-pivot.wide
    (subst (λ (u : Table). PassesIn u o.leaving.row o.entering.column c.in-Err-pivot.wide) c.in_default.ensures.table c.in-Err-pivot.ensures.passes)

pub put_value-requires : goal.put_value-requires
put_value-requires c = omega (arith, c.in_default.ensures.count, row_inside c.args.problem.now c.args.state.now c.args.choice.now.leaving.variable c.args.choice.now.leaving.row c.requires.shaped c.requires.chosen.row, c.requires.shaped.values)

pub exchange_places-requires-clause-leaving : goal.exchange_places-requires-clause-leaving
exchange_places-requires-clause-leaving c =
    let count = ap (λ v. length v.items) (c.put_value.ensures.places ∙ c.in_default.ensures.places) in
    omega (arith, count, row_within c.args.state.now.places.items c.args.choice.now.leaving.variable c.args.choice.now.leaving.row c.requires.chosen.row)

pub exchange_places-requires-clause-entering : goal.exchange_places-requires-clause-entering
exchange_places-requires-clause-entering c =
    let count = ap (λ v. length v.items) (c.put_value.ensures.places ∙ c.in_default.ensures.places) in
    omega (arith, count, column_within c.args.state.now.places.items c.args.choice.now.entering.variable c.args.choice.now.entering.column c.requires.chosen.column)

pub returns-clause-shaped : goal.returns-clause-shaped
returns-clause-shaped c =
    let s = c.args.state.now in
    let o = c.args.choice.now in
    let problem = c.args.problem.now in
    let final = c.exchange_places.new.state in
    let table = c.exchange_places.ensures.table ∙ c.put_value.ensures.table in
    let exchanged = subst (λ v. IsExchanged v o.leaving.row o.entering.column final.table) c.in_default.ensures.table (subst (λ v. IsExchanged c.move_values.new.state.table o.leaving.row o.entering.column v) (sym table) c.in_default-pivot.ensures.exchanged) in
    let values = ap (λ v. length v.items) c.exchange_places.ensures.values ∙ ap (λ (vs : List (Delta Ratio)). length vs) c.put_value.ensures.values ∙ length-set c.move_values.new.state.values.items o.leaving.row c.in-Ok-entering_value.entering in
    let places = c.exchange_places.ensures.places ∙ ap (λ v. places_after_exchange problem o v.items) (c.put_value.ensures.places ∙ c.in_default.ensures.places) in
    record {
      filled = subst (λ (u : Table). IsFilled u) (sym table) c.in_default-pivot.ensures.filled;
      rows = exchanged.rows ∙ c.requires.shaped.rows;
      columns = exchanged.columns ∙ c.requires.shaped.columns;
      values = values ∙ c.in_default.ensures.count ∙ c.requires.shaped.values;
      places = ap (λ (ps : List Place). length ps) places ∙ replaced_count problem o s.places.items ∙ c.requires.shaped.places;
      inside = λ j place e. inside_next problem (length problem.rows) (length problem.ranges) s.places.items o (row_within s.places.items o.leaving.variable o.leaving.row c.requires.chosen.row) (column_within s.places.items o.entering.variable o.entering.column c.requires.chosen.column)
          (row_inside problem s o.leaving.variable o.leaving.row c.requires.shaped c.requires.chosen.row) (column_inside problem s o.entering.variable o.entering.column c.requires.shaped c.requires.chosen.column)
          c.requires.shaped.inside j place (subst (λ (ps : List Place). slice_get ps j ≡ Some place) places e);
    }

pub returns-clause-at : goal.returns-clause-at
returns-clause-at c x t at chosen =
    let s = c.args.state.now in
    let o = c.args.choice.now in
    let problem = c.args.problem.now in
    let final = c.exchange_places.new.state in
    let vs = c.move_values.new.state.values.items in
    let laws = c.operations_give_factors.ensures in
    let table = c.exchange_places.ensures.table ∙ c.put_value.ensures.table in
    let exchanged = subst (λ v. IsExchanged v o.leaving.row o.entering.column final.table) c.in_default.ensures.table (subst (λ v. IsExchanged c.move_values.new.state.table o.leaving.row o.entering.column v) (sym table) c.in_default-pivot.ensures.exchanged) in
    let values = ap (λ v. v.items) c.exchange_places.ensures.values ∙ c.put_value.ensures.values in
    let places = c.exchange_places.ensures.places ∙ ap (λ v. places_after_exchange problem o v.items) (c.put_value.ensures.places ∙ c.in_default.ensures.places) in
    let step = c.in-Ok.ensures.is x t at in
    let rest = subst (λ (n : ℕ). AreMoved (whole_problem problem) x t o s.places.items n vs) (sym c.in_default.ensures.count) (c.in_default.ensures.done x t at step) in
    next_at problem s x t o c.requires.shaped at chosen (c.requires.shaped.places ∙ sym (c.problems_are_whole.ensures.variables problem).1) final vs c.in-Ok-entering_value.entering (c.problems_are_whole.ensures.whole problem c.requires.problem)
    c.basic_variables.ensures.exchanged c.solved_forms.ensures.next laws.entering laws.leaving laws.others c.operations_give_values.ensures.entering c.operations_give_values.ensures.basic
    exchanged values places (c.in_default.ensures.count ∙ c.requires.shaped.values) (c.in-Ok-entering_value.ensures.is x t at step) rest

pub returns-clause-fits : goal.returns-clause-fits
returns-clause-fits c x t at chosen w h =
    let s = c.args.state.now in
    let o = c.args.choice.now in
    let problem = c.args.problem.now in
    let vs = c.move_values.new.state.values.items in
    let step = c.in-Ok.ensures.is x t at in
    let rest = subst (λ (n : ℕ). AreMoved (whole_problem problem) x t o s.places.items n vs) (sym c.in_default.ensures.count) (c.in_default.ensures.done x t at step) in
    nothing_passes problem s x t o c.requires.shaped at chosen (c.requires.shaped.places ∙ sym (c.problems_are_whole.ensures.variables problem).1) vs c.in-Ok.step c.in-Ok-entering_value.entering
    (λ v p. c.in_default-pivot.ensures.fits v (subst (λ (u : Table). PassesIn u o.leaving.row o.entering.column v) (sym c.in_default.ensures.table) p))
    (c.in_default.ensures.count ∙ c.requires.shaped.values) step (c.in-Ok-entering_value.ensures.is x t at step) rest w h
