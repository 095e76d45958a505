use Rattle.std.proofs.Common.{◌≡◌, ◌+◌, length}
use Rattle.xc_forest.specs.Forests.{ranges_of}
use Rattle.xc_forest.specs.Steps.Scaled.{AreSpansOver, first_spans, scale_of}
use Rattle.xc_forest.proofs.narrowing.first_spans.Given as goal

abbrev pub invariant-loop-row : goal.invariant-loop-row
invariant-loop-row g l = record {
  each : length l.spans.items ≡ length l.forest.ranges + l._row;
  hold : AreSpansOver g.E.Exact.parts (scale_of (ranges_of g.E.Exact.parts l.forest.ranges)) l.spans.items (first_spans (ranges_of g.E.Exact.parts l.forest.ranges));
}
