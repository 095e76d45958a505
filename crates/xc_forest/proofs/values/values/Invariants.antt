use Rattle.xc_forest.specs.Steps.Trails.{AreSettled}
use Rattle.xc_forest.proofs.values.values.Given as goal

abbrev pub invariant-loop-undo : goal.invariant-loop-undo
invariant-loop-undo g l = AreSettled g.E.Exact.parts l.forest l.links l.undos.items l.values.items

abbrev pub decreases-loop-undo : goal.decreases-loop-undo
decreases-loop-undo g l = goal.left-loop-undo g l
