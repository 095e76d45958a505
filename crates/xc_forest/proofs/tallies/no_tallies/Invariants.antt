use Rattle.std.proofs.Common.{◌≡◌, [], length}
use Rattle.xc_forest.specs.Steps.Edges.{AreTallies}
use Rattle.xc_forest.proofs.tallies.no_tallies.Given as goal

abbrev pub invariant-loop-vertex : goal.invariant-loop-vertex
invariant-loop-vertex l = record { each : length l.tallies.items ≡ l._vertex; tallies : AreTallies [] l.tallies.items }
