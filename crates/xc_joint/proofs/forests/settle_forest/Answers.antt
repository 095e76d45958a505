use Rattle.std.proofs.Common.{ℕ, List, sym, subst}
use Rattle.std.specs.Prelude.{All, IsSome}
use Rattle.xc_interval.specs.declared.interval.Interval.{Interval}
use Rattle.xc_joint.proofs.ForestParts.{forest_values, points_bounded, points_have, spans_known}
use Rattle.xc_joint.specs.Lists.{AreEach}
use Rattle.xc_joint.specs.Steps.OneForest.{HasSome, IsBounded, IsRangeOf, IsSolved, IsSpanOf}
use Rattle.xc_joint.specs.declared.one_forest.Span.{Span}
use Rattle.xc_joint.specs.declared.solving.Solution.{Solution}
use Rattle.xc_model.specs.Ratio.{Ratio}
use Rattle.xc_system.specs.Systems.{range_at}
use Rattle.xc_joint.proofs.forests.settle_forest.Goals as goal

pub spans-requires : goal.spans-requires
spans-requires c = subst (λ (ps : List ℕ). All (HasSome c.args.system.now) ps) (sym c.as_slice.ensures)
    (points_have c.args.system.now c.args.component.now c.requires.component c.requires.none_empty c.requires.forest.known)

pub ranges-requires : goal.ranges-requires
ranges-requires c = subst (λ (xs : List Span). All (λ span. IsSome (range_at c.args.system.now.bounds span.low) × IsSome (range_at c.args.system.now.bounds span.high)) xs) (sym c.as_slice-2.ensures.value)
    (spans_known c.args.system.now c.as_slice.result.now c.in_ok-spans.spans.items c.in_ok-spans.ensures)

pub solve_forest-requires-clause-ranges : goal.solve_forest-requires-clause-ranges
solve_forest-requires-clause-ranges c =
    let s = c.args.system.now in
    subst (λ (rs : List (Interval Ratio)). AreEach (IsBounded s) c.args.component.now.points rs) (sym c.as_slice-3.ensures.value)
    (points_bounded s c.args.component.now.points c.in_ok-spans.spans.items c.in_ok-ranges.ranges.items
    (subst (λ (ps : List ℕ). AreEach (IsSpanOf s) ps c.in_ok-spans.spans.items) c.as_slice.ensures c.in_ok-spans.ensures)
    (subst (λ (xs : List Span). AreEach (IsRangeOf s) xs c.in_ok-ranges.ranges.items) c.as_slice-2.ensures.value c.in_ok-ranges.ensures))

pub returns-in-Numbers : goal.returns-in-Numbers
returns-in-Numbers c =
    let s = c.args.system.now in
    let part = c.args.component.now in
    let ranges = c.as_slice-3.result.now in
    let bounded : AreEach (IsBounded s) part.points ranges = subst (λ (rs : List (Interval Ratio)). AreEach (IsBounded s) part.points rs) (sym c.as_slice-3.ensures.value)
    (points_bounded s part.points c.in_ok-spans.spans.items c.in_ok-ranges.ranges.items
    (subst (λ (ps : List ℕ). AreEach (IsSpanOf s) ps c.in_ok-spans.spans.items) c.as_slice.ensures c.in_ok-spans.ensures)
    (subst (λ (xs : List Span). AreEach (IsRangeOf s) xs c.in_ok-ranges.ranges.items) c.as_slice-2.ensures.value c.in_ok-ranges.ensures)) in
    forest_values s part ranges c.in-Numbers.values c.requires.component c.requires.forest bounded
    (subst (λ (x : Solution). IsSolved s part ranges x) c.in-Numbers.is c.in_ok-values.ensures)
    c.numbers_are_values.ensures c.numbers_have_sums.ensures

pub returns : goal.returns
returns c =
    let s = c.args.system.now in
    let part = c.args.component.now in
    let r = c.in_ok-refutation-in-Contradiction.refutation in (
      c.in_ok-refutation-in-Contradiction.ensures.contradicts,
      c.unit_refutations_sum.ensures s part r c.points-points.ensures.system c.points-points.ensures.small c.requires.component c.requires.forest
          c.in_ok-refutation-in-Contradiction.ensures.contradicts c.in_ok-refutation-in-Contradiction.ensures.units,
    )
