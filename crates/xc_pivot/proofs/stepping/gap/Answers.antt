use Rattle.std.proofs.Common.{inr, refl, subst, arith}
use Rattle.xc_model.proofs.Results.{over_one}
use Rattle.xc_corners.specs.Operations.{gap_taken}
use Rattle.xc_corners.specs.WholeNumbers.{whole_problem}
use Rattle.xc_frac.specs.Passes.{Passes}
use Rattle.xc_frac.specs.declared.wide.Op.TheVariants.{Sub}
use Rattle.xc_model.specs.Ratio.{Ratio}
use Rattle.xc_pivot.specs.Deltas.{of_part}
use Rattle.xc_pivot.specs.Steps.{PassesNext, IsGapOf}
use Rattle.xc_pivot.proofs.Both.{if_each, if_one}
use Rattle.xc_pivot.proofs.Placed.{read_at, row_inside}
use Rattle.xc_pivot.proofs.stepping.gap.Goals as goal

pub index-requires : goal.index-requires
index-requires c =
    let s = c.args.state.now in
    omega (arith, row_inside c.args.problem.now s c.args.choice.now.leaving.variable c.args.choice.now.leaving.row c.requires.shaped c.requires.chosen.row, c.requires.shaped.values, s.values.ok.0)

pub returns-clause-is : goal.returns-clause-is
returns-clause-is c x t at =
    let s = c.args.state.now in
    let l = c.args.choice.now.leaving in
    let limit = c.passed_bound.result in
    let value = c.index.result.now in
    let there = read_at s.values.items s.values.items l.row value refl (omega (arith, row_inside c.args.problem.now s l.variable l.row c.requires.shaped c.requires.chosen.row, c.requires.shaped.values)) c.index.ensures in
    let is_value = at.values l.variable l.row value c.requires.chosen.row there in
    if_each c.difference.result Sub (of_part limit) (of_part value) (IsGapOf (whole_problem c.args.problem.now) x t c.args.choice.now) c.difference.ensures.gives c.difference.ensures.stays
    (λ d gives stays. record {
      gap = λ k. record { limit = of_part limit k; is_limit = c.passed_bound.ensures.bound k; value = of_part value k; is_value = is_value k; gives = gives k };
      stays = λ k f v limits values passes. stays k (subst (λ (h : Ratio). Passes Sub h (of_part value k)) (over_one f (of_part limit k) _ _ limits (c.passed_bound.ensures.bound k)) (subst (λ (h : Ratio). Passes Sub f h) (over_one v (of_part value k) _ _ values (is_value k)) passes));
    })

pub returns-clause-passes : goal.returns-clause-passes
returns-clause-passes c x t at =
    let s = c.args.state.now in
    let l = c.args.choice.now.leaving in
    let limit = c.passed_bound.result in
    let value = c.index.result.now in
    let there = read_at s.values.items s.values.items l.row value refl (omega (arith, row_inside c.args.problem.now s l.variable l.row c.requires.shaped c.requires.chosen.row, c.requires.shaped.values)) c.index.ensures in
    if_one c.difference.result Sub (of_part limit) (of_part value) (PassesNext (whole_problem c.args.problem.now) x t c.args.choice.now) c.difference.ensures.passes
    (λ k p. record { stands = inr (gap_taken k (of_part limit k) (of_part value k) (c.passed_bound.ensures.bound k) (at.values l.variable l.row value c.requires.chosen.row there k) refl); passes = p })
