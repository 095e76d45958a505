use Rattle.std.proofs.Common.{ℕ, ◌<◌, slice_index}
use Rattle.xc_joint.specs.Causes.{IsEmptyPoint}
use Rattle.xc_joint.proofs.empties.first_empty.Given as goal

-- none of the points so far is empty
abbrev pub invariant-loop-point : goal.invariant-loop-point
invariant-loop-point l = (i : ℕ) → i < l.point-index → IsEmptyPoint l.system (slice_index l.component.points i) → ⊥
