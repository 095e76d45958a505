use Rattle.std.proofs.Common.{◌≡◌, length}
use Rattle.xc_forest.specs.Forests.{ranges_of}
use Rattle.xc_forest.specs.Steps.Scaled.{AreValuesOver, scale_of}
use Rattle.xc_forest.specs.Steps.Vertices.{no_parts}
use Rattle.xc_forest.proofs.values.zero_values.Given as goal

abbrev pub invariant-loop-vertex : goal.invariant-loop-vertex
invariant-loop-vertex g l = record {
  each : length l.values.items ≡ l._vertex;
  hold : AreValuesOver g.E.Exact.parts (scale_of (ranges_of g.E.Exact.parts l.forest.ranges)) l.values.items (λ v. no_parts);
}
