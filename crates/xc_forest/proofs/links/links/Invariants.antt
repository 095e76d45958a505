use Rattle.std.proofs.Common.{◌≡◌, ◌+◌, ◌-◌, length}
use Rattle.xc_forest.specs.Steps.Edges.{IsPeeled, edges_from}
use Rattle.xc_forest.specs.Steps.Links.{AreLinksOf}
use Rattle.xc_forest.proofs.links.links.Given as goal

abbrev pub decreases-loop-k : goal.decreases-loop-k
decreases-loop-k l = (l.points + length l.rows) - l.k

abbrev pub invariant-loop-k : goal.invariant-loop-k
invariant-loop-k l = record {
  peeled : IsPeeled (edges_from l.points l.rows) l.order.items l.k l.tallies.items;
  each : length l.tallies.items ≡ l.points + length l.rows;
  so_far : length l.links.items ≡ l.k;
  links : AreLinksOf (edges_from l.points l.rows) l.order.items l.links.items;
}
