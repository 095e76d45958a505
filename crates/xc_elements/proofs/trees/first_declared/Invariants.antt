use Rattle.xc_elements.proofs.PathLaws.{Climbs, height}
use Rattle.xc_elements.proofs.trees.first_declared.Given as goal

-- what is left of the path gives what the whole path gives
abbrev pub invariant-loop-at : goal.invariant-loop-at
invariant-loop-at l = Climbs l.nodes l.node l.prefix l.at

abbrev pub decreases-loop-at : goal.decreases-loop-at
decreases-loop-at l = height l.at
