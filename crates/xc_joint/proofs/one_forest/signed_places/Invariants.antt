use Rattle.std.proofs.Common.{ℕ, Bool, List, ◌++◌, drop}
use Rattle.xc_joint.specs.Lists.{AreEach}
use Rattle.xc_joint.specs.Steps.OneForest.{IsSignedPlace}
use Rattle.xc_joint.proofs.one_forest.signed_places.Given as goal

-- what is made so far, with what is made of those that are left, is what is made of all
abbrev pub invariant-loop-entry : goal.invariant-loop-entry
invariant-loop-entry l = (rest : List (ℕ × Bool)) → AreEach (IsSignedPlace l.points) (drop l.entry-index l.entries) rest → AreEach (IsSignedPlace l.points) l.entries (l.places.items ++ rest)
