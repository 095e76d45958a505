use Rattle.std.proofs.Common.{ℕ, List, sym, subst}
use Rattle.std.specs.Prelude.{All}
use Rattle.xc_joint.proofs.CornerAnswers.{conflict_of, known_points_have, stop_passes}
use Rattle.xc_joint.proofs.TightestRanges.{unwide_known}
use Rattle.xc_joint.specs.Steps.OneForest.{HasSome}
use Rattle.xc_joint.specs.Steps.ProblemRefutations.{IsRefutationBy}
use Rattle.xc_joint.specs.Steps.SpanProblems.{IsProblemBy}
use Rattle.xc_joint.specs.declared.one_forest.Span.{Span}
use Rattle.xc_pivot.specs.Solving.{IfInfeasible, IfStopped, IsRefutation, StopsAt}
use Rattle.xc_pivot.specs.declared.types.Outcome.{Outcome}
use Rattle.xc_joint.proofs.by_corners.settle_by_corners.Goals as goal

pub spans-requires : goal.spans-requires
spans-requires c = subst (λ (ps : List ℕ). All (HasSome c.args.system.now) ps) (sym c.as_slice.ensures)
    (known_points_have c.args.system.now c.args.component.now c.requires.component c.requires.none_empty (unwide_known c.args.system.now c.args.component.now c.requires.none_wide))

pub settle_by_refutation-requires-clause-conflict : goal.settle_by_refutation-requires-clause-conflict
settle_by_refutation-requires-clause-conflict c =
    let s = c.args.system.now in
    let part = c.args.component.now in
    let problem = c.in_ok-problem.problem in
    let m = c.in-Infeasible.multipliers in
    let r = c.in_ok-refutation-in-Infeasible.refutation in
    conflict_of s part c.in_ok-spans.spans.items problem m r
    (subst (λ (xs : List Span). IsProblemBy s part xs problem) c.as_slice-2.ensures.value c.in_ok-problem.ensures.by_spans)
    (subst (λ (o : Outcome). IfInfeasible (IsRefutation problem) o) c.in-Infeasible.is c.in_ok-values.ensures.infeasible)
    (subst (λ (xs : List Span). IsRefutationBy part xs m r) c.as_slice-in-Infeasible.ensures.value c.in_ok-refutation-in-Infeasible.ensures.lists)
    c.in_ok-refutation-in-Infeasible.ensures.contradicts

pub returns-clause-answer : goal.returns-clause-answer
returns-clause-answer c =
    let problem = c.in_ok-problem.problem in
    stop_passes c.args.system.now c.args.component.now problem c.in_ok-problem.ensures.of c.in-TooWide.corner c.in-TooWide.wide
    (subst (λ (o : Outcome). IfStopped (StopsAt problem) o) c.in-TooWide.is c.in_ok-values.ensures.too_wide)
