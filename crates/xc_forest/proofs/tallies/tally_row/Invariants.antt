use Rattle.std.proofs.Common.{◌≡◌, ◌+◌, ◌++◌, drop, length}
use Rattle.xc_forest.specs.Steps.Edges.{AreTalliesWith, edges_from, edges_of_row}
use Rattle.xc_forest.proofs.tallies.tally_row.Given as goal

abbrev pub invariant-loop-point : goal.invariant-loop-point
invariant-loop-point l = record {
  each : length l.tallies ≡ length l.initial.tallies;
  tallies : AreTalliesWith (edges_from l.points l.rows) (edges_of_row l.row (drop l.point-index l.point-items) ++ edges_from (l.points + (l.i + 1)) (drop (l.i + 1) l.rows)) l.tallies;
}
