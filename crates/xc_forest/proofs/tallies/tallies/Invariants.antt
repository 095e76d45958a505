use Rattle.std.proofs.Common.{◌≡◌, ◌+◌, drop, length}
use Rattle.xc_forest.specs.Steps.Edges.{AreTalliesWith, edges_from}
use Rattle.xc_forest.proofs.tallies.tallies.Given as goal

abbrev pub invariant-loop-i : goal.invariant-loop-i
invariant-loop-i l = record {
  each : length l.tallies.items ≡ l.points + length l.rows;
  tallies : AreTalliesWith (edges_from l.points l.rows) (edges_from (l.points + l.i) (drop l.i l.rows)) l.tallies.items;
}
