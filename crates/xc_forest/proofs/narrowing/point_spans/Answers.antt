use Rattle.std.proofs.Common.{◌+◌, ap, sym, ◌∙◌, ℕ}
use Rattle.std.proofs.lemmas.List.{length_push}
use Rattle.xc_forest.specs.declared.spans.Bounds.{Bounds}
use Rattle.xc_forest.proofs.FirstSpans.{spans_push, span_of_range}
use Rattle.xc_forest.proofs.narrowing.point_spans.Goals as goal

pub loop-range-preserved : goal.loop-range-preserved
loop-range-preserved g c =
    let at_end = sym c.loop-range.invariant.each in
    let new : Bounds _ = record { low = c.value.result; high = c.value-in-loop-range.result } in
    let o = span_of_range g.E.Exact.parts c.args.ranges.now c.loop-range.range-index c.range-item.result c.loop-range-test.true c.range-item.is c.value.result c.value-in-loop-range.result c.value.ensures c.value-in-loop-range.ensures in
    rw c.in_ok-push.ensures.items (record {
      each = length_push c.loop-range.spans.items new ∙ ap (λ (n : ℕ). n + 1) c.loop-range.invariant.each;
      hold = spans_push g.E.Exact.parts _ c.loop-range.spans.items new _ c.loop-range.invariant.hold (rw c.loop-range.invariant.each o);
    })
