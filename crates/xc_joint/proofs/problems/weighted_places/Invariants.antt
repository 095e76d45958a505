use Rattle.xc_joint.specs.ComponentProblems.{IsWeightedPlace}
use Rattle.xc_joint.proofs.Each.{EachSoFar}
use Rattle.xc_joint.proofs.problems.weighted_places.Given as goal

abbrev pub invariant-loop-entry : goal.invariant-loop-entry
invariant-loop-entry l = EachSoFar (IsWeightedPlace l.points) l.entries l.entry-index l.places.items
