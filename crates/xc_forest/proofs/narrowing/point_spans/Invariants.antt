use Rattle.std.proofs.Common.{◌≡◌, length}
use Rattle.xc_forest.specs.Forests.{ranges_of}
use Rattle.xc_forest.specs.Steps.Scaled.{AreSpansOver, first_spans, scale_of}
use Rattle.xc_forest.proofs.narrowing.point_spans.Given as goal

abbrev pub invariant-loop-range : goal.invariant-loop-range
invariant-loop-range g l = record {
  each : length l.spans.items ≡ l.range-index;
  hold : AreSpansOver g.E.Exact.parts (scale_of (ranges_of g.E.Exact.parts l.ranges)) l.spans.items (first_spans (ranges_of g.E.Exact.parts l.ranges));
}
