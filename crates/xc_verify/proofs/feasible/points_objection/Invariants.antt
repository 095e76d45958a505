use Rattle.std.proofs.Common.{ℕ, ◌<◌, None}
use Rattle.xc_verify.specs.Feasible.{IsMetAtPoint}
use Rattle.xc_verify.proofs.feasible.points_objection.Given as goal

-- nothing is met at the points so far
abbrev pub invariant-loop-point : goal.invariant-loop-point
invariant-loop-point l = (p : ℕ) → p < l.point → IsMetAtPoint l.system.bounds l.values p None
