use Rattle.xc_forest.specs.Steps.Links.{AreLeaves}
use Rattle.xc_forest.proofs.links.leaves.Given as goal

abbrev pub invariant-loop-vertex : goal.invariant-loop-vertex
invariant-loop-vertex l = AreLeaves l.tallies l.vertex l.order.items
