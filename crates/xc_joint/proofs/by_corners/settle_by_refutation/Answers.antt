use Rattle.std.proofs.Common.{sym, subst}
use Rattle.xc_joint.proofs.CornerAnswers.{refutation_passes}
use Rattle.xc_joint.proofs.NoCorners.{refutation_excludes}
use Rattle.xc_joint.specs.Steps.ByCorners.{IsChecked}
use Rattle.xc_joint.specs.Steps.UnitSums.{HasSums}
use Rattle.xc_joint.specs.declared.by_corners.Checked.{Checked}
use Rattle.xc_system.specs.Refutations.{IsContradictionOf}
use Rattle.xc_joint.proofs.by_corners.settle_by_refutation.Goals as goal

pub returns-in-Summed-clause-answer : goal.returns-in-Summed-clause-answer
returns-in-Summed-clause-answer c =
    let s = c.args.system.now in
    let part = c.args.component.now in
    let told = subst (λ (x : Checked). IsChecked s c.args.refutation x) c.in-Summed.is c.check_sums.ensures.is in (
      subst (IsContradictionOf s part) (sym told.0) c.requires.contradicts,
      subst (HasSums s) (sym told.0) told.1,
      refutation_excludes c.solved_forms.ensures.one c.one_run.ensures.run c.one_run.ensures.feasible c.one_run.ensures.conflict c.one_sum.ensures s part c.requires.component c.args.problem.now c.requires.of
          (c.problems_are_whole.ensures.whole c.args.problem.now c.requires.can_be_solved) c.args.refutation c.requires.conflict told.1,
    )

pub returns-in_ok-corner-in-Passes-clause-answer : goal.returns-in_ok-corner-in-Passes-clause-answer
returns-in_ok-corner-in-Passes-clause-answer c =
    let s = c.args.system.now in
    refutation_passes s c.args.component.now c.args.problem.now c.requires.of c.one_run.ensures.run c.one_run.ensures.feasible c.one_run.ensures.conflict
    (c.problems_are_whole.ensures.whole c.args.problem.now c.requires.can_be_solved) c.in_ok-corner-in-Passes.corner c.in_ok-corner-in-Passes.ensures c.in-Passes.wide
    c.args.refutation c.requires.conflict (subst (λ (x : Checked). IsChecked s c.args.refutation x) c.in-Passes.is c.check_sums.ensures.is)
