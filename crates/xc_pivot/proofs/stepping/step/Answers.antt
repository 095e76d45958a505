use Rattle.std.proofs.Common.{inr, refl, arith}
use Rattle.xc_corners.specs.Operations.{step_divided}
use Rattle.xc_corners.specs.WholeNumbers.{whole_problem}
use Rattle.xc_frac.specs.declared.wide.Op.TheVariants.{Div}
use Rattle.xc_pivot.specs.Deltas.{of_part}
use Rattle.xc_pivot.specs.Steps.{PassesNext, IsStepOf}
use Rattle.xc_pivot.proofs.Both.{if_gives, if_one}
use Rattle.xc_pivot.proofs.Placed.{row_inside, column_inside}
use Rattle.xc_pivot.proofs.stepping.step.Goals as goal

pub entry-requires-clause-row : goal.entry-requires-clause-row
entry-requires-clause-row c = omega (arith, row_inside c.args.problem.now c.args.state.now c.args.choice.now.leaving.variable c.args.choice.now.leaving.row c.requires.shaped c.requires.chosen.row, c.requires.shaped.rows)

pub entry-requires-clause-column : goal.entry-requires-clause-column
entry-requires-clause-column c = omega (arith, column_inside c.args.problem.now c.args.state.now c.args.choice.now.entering.variable c.args.choice.now.entering.column c.requires.shaped c.requires.chosen.column, c.requires.shaped.columns)

pub returns-in-Ok-clause-is : goal.returns-in-Ok-clause-is
returns-in-Ok-clause-is c x t at =
    let o = c.args.choice.now in
    let g = c.in-Ok.ensures.is x t at in
    let factor = at.factors o.leaving.variable o.entering.variable o.leaving.row o.entering.column c.entry.result c.requires.chosen.row c.requires.chosen.column c.entry.ensures in
    if_gives c.quotient.result Div (of_part c.in-Ok.gap) (λ k. c.entry.result) (IsStepOf (whole_problem c.args.problem.now) x t o) c.quotient.ensures.gives
    (λ d gives. record {
      step = λ k. record { gap = of_part c.in-Ok.gap k; is_gap = g.gap k; pivot = c.entry.result; is_pivot = factor; gives = gives k };
      stays = g.stays;
    })

pub returns-in-Ok-clause-passes : goal.returns-in-Ok-clause-passes
returns-in-Ok-clause-passes c x t at =
    let o = c.args.choice.now in
    let g = c.in-Ok.ensures.is x t at in
    let factor = at.factors o.leaving.variable o.entering.variable o.leaving.row o.entering.column c.entry.result c.requires.chosen.row c.requires.chosen.column c.entry.ensures in
    if_one c.quotient.result Div (of_part c.in-Ok.gap) (λ k. c.entry.result) (PassesNext (whole_problem c.args.problem.now) x t o) c.quotient.ensures.passes
    (λ k p. record { stands = inr (step_divided k (of_part c.in-Ok.gap k) c.entry.result (g.gap k) factor refl); passes = p })
