use Rattle.std.proofs.Common.{ℕ, List, arith, sym, subst}
use Rattle.xc_interval.specs.declared.interval.Interval.{Interval}
use Rattle.xc_joint.specs.ComponentProblems.{IsWeightedRow}
use Rattle.xc_joint.specs.Lists.{AreEach}
use Rattle.xc_joint.specs.Steps.OneForest.{IsRangeOf}
use Rattle.xc_joint.proofs.ComponentProblems.{problem_is, problem_of, problem_small}
use Rattle.xc_joint.proofs.ForestRanges.{spans_known}
use Rattle.xc_joint.proofs.ForestRows.{own_points}
use Rattle.xc_joint.proofs.Searched.{at_most}
use Rattle.xc_model.specs.Ratio.{Ratio}
use Rattle.xc_joint.proofs.problems.problem.Goals as goal

pub ranges-requires : goal.ranges-requires
ranges-requires c = spans_known c.args.system.now c.args.component.now.points c.args.spans.now c.requires.spans

pub weighted_rows-requires-clause-few : goal.weighted_rows-requires-clause-few
weighted_rows-requires-clause-few c =
    let few = at_most c.args.component.now.points c.args.system.now.points c.requires.component.points_ascend (c.components_are_closed.ensures.points c.args.system.now c.args.component.now c.requires.component) in
    omega (arith, few, c.points-points.ensures.small.points)

pub weighted_rows-requires-clause-own : goal.weighted_rows-requires-clause-own
weighted_rows-requires-clause-own c = own_points c.components_are_closed.ensures.own c.equations_name_points.ensures.points c.args.system.now c.args.component.now c.points-points.ensures.system c.requires.component

pub returns-clause-of : goal.returns-clause-of
returns-clause-of c = problem_of c.args.system.now c.args.component.now c.args.spans.now (record { ranges = c.of.result; rows = c.of-2.result }) (record {
  bounded = c.requires.spans;
  ranges = subst (λ (xs : List (Interval Ratio)). AreEach (IsRangeOf c.args.system.now) c.args.spans.now xs) (sym c.of.ensures) c.in_ok-ranges.ensures;
  rows = subst (λ (xs : List (List (ℕ × Ratio))). AreEach (IsWeightedRow c.args.system.now c.args.component.now.points) c.args.component.now.equations xs) (sym c.of-2.ensures) c.in_ok-rows.ensures;
})

pub returns-clause-can_be_solved : goal.returns-clause-can_be_solved
returns-clause-can_be_solved c = problem_is c.args.system.now c.args.component.now c.args.spans.now (record { ranges = c.of.result; rows = c.of-2.result }) (record {
  bounded = c.requires.spans;
  ranges = subst (λ (xs : List (Interval Ratio)). AreEach (IsRangeOf c.args.system.now) c.args.spans.now xs) (sym c.of.ensures) c.in_ok-ranges.ensures;
  rows = subst (λ (xs : List (List (ℕ × Ratio))). AreEach (IsWeightedRow c.args.system.now c.args.component.now.points) c.args.component.now.equations xs) (sym c.of-2.ensures) c.in_ok-rows.ensures;
}) c.ends_tell.ensures.numbers

pub returns-clause-small : goal.returns-clause-small
returns-clause-small c = problem_small c.args.system.now c.args.component.now c.args.spans.now (record { ranges = c.of.result; rows = c.of-2.result }) (record {
  bounded = c.requires.spans;
  ranges = subst (λ (xs : List (Interval Ratio)). AreEach (IsRangeOf c.args.system.now) c.args.spans.now xs) (sym c.of.ensures) c.in_ok-ranges.ensures;
  rows = subst (λ (xs : List (List (ℕ × Ratio))). AreEach (IsWeightedRow c.args.system.now c.args.component.now.points) c.args.component.now.equations xs) (sym c.of-2.ensures) c.in_ok-rows.ensures;
}) c.points-points.ensures.small c.requires.component c.components_are_closed.ensures.points c.components_are_closed.ensures.equations
