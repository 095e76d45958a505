use Rattle.std.proofs.Common.{List, subst}
use Rattle.xc_joint.proofs.CornerAnswers.{sum_passes}
use Rattle.xc_joint.proofs.EquationSums.{have_sums}
use Rattle.xc_joint.proofs.ForestRows.{own_points}
use Rattle.xc_joint.proofs.NoCorners.{values_exclude}
use Rattle.xc_joint.specs.Lists.{AreAmong}
use Rattle.xc_model.specs.Ratio.{Ratio}
use Rattle.xc_joint.proofs.by_corners.settle_by_values.Goals as goal

pub returns-in-None-clause-answer : goal.returns-in-None-clause-answer
returns-in-None-clause-answer c =
    let s = c.args.system.now in
    let part = c.args.component.now in
    let all = c.passing_operation_with-passing.new.all in
    let own = own_points c.components_are_closed.ensures.own c.equations_name_points.ensures.points s part c.points-points.ensures.system c.requires.component in
    let among = subst (λ (xs : List Ratio). AreAmong part.points xs all) c.as_slice.ensures c.passing_operation_with-passing.ensures.among in (
      c.requires.are,
      have_sums s part own c.args.values c.requires.are.each all among c.in-None.ensures.none,
      values_exclude c.solved_forms.ensures.one c.one_run.ensures.run c.one_run.ensures.feasible c.one_run.ensures.conflict c.one_sum.ensures s part c.requires.component c.args.problem.now c.requires.of
          (c.problems_are_whole.ensures.whole c.args.problem.now c.requires.can_be_solved) own c.args.values c.requires.solution c.requires.are.each all among c.in-None.ensures.none,
    )

pub returns-in_ok-corner-in-Some-clause-answer : goal.returns-in_ok-corner-in-Some-clause-answer
returns-in_ok-corner-in-Some-clause-answer c =
    let s = c.args.system.now in
    let part = c.args.component.now in
    let all = c.passing_operation_with-passing.new.all in
    let among = subst (λ (xs : List Ratio). AreAmong part.points xs all) c.as_slice.ensures c.passing_operation_with-passing.ensures.among in
    sum_passes s part c.args.problem.now c.requires.of c.one_run.ensures.run c.one_run.ensures.feasible c.one_run.ensures.conflict
    (c.problems_are_whole.ensures.whole c.args.problem.now c.requires.can_be_solved) c.in_ok-corner-in-Some.corner c.in_ok-corner-in-Some.ensures c.in-Some.wide
    c.args.values all c.requires.solution among c.in-Some.ensures.some
