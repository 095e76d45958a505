use Rattle.xc_forest.specs.Steps.Trails.{AreRefuted}
use Rattle.xc_forest.proofs.multipliers.multipliers.Given as goal

abbrev pub invariant-loop-undo : goal.invariant-loop-undo
invariant-loop-undo g l = AreRefuted g.E.Exact.parts l.forest l.links l.undos.items l.multipliers.items

abbrev pub decreases-loop-undo : goal.decreases-loop-undo
decreases-loop-undo g l = goal.left-loop-undo g l
