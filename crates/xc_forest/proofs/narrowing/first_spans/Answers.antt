use Rattle.std.proofs.Common.{length, ap, arith}
use Rattle.std.proofs.lemmas.List.{length_push}
use Rattle.xc_forest.specs.declared.spans.Bounds.{Bounds}
use Rattle.xc_forest.proofs.FirstSpans.{spans_push, span_of_row}
use Rattle.xc_forest.proofs.narrowing.first_spans.Goals as goal

pub loop-row-init : goal.loop-row-init
loop-row-init g c = record {
  each = omega (arith, c.in_ok-spans.ensures.each, ap length c.as_slice.ensures);
  hold = rw c.as_slice.ensures at c.in_ok-spans.ensures.spans;
}

pub loop-row-preserved : goal.loop-row-preserved
loop-row-preserved g c =
    let new : Bounds _ = record { low = c.zero.result; high = c.zero-in-loop-row.result } in
    let o = span_of_row g.E.Exact.parts c.args.forest.now.ranges (length c.loop-row.spans.items) (omega (arith, c.loop-row.invariant.each)) c.zero.result c.zero-in-loop-row.result c.zero.ensures c.zero-in-loop-row.ensures in
    rw c.in_ok-push.ensures.items (record {
      each = omega (arith, length_push c.loop-row.spans.items new, c.loop-row.invariant.each);
      hold = spans_push g.E.Exact.parts _ c.loop-row.spans.items new _ c.loop-row.invariant.hold o;
    })
