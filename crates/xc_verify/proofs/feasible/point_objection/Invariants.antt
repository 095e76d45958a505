use Rattle.std.proofs.Common.{ℕ, ◌<◌, None, slice_index}
use Rattle.xc_system.specs.Systems.{facts_of, range_at}
use Rattle.xc_verify.specs.Feasible.{IsMetInside}
use Rattle.xc_verify.proofs.feasible.point_objection.Given as goal

-- nothing is met at the facts so far
abbrev pub invariant-loop-fact : goal.invariant-loop-fact
invariant-loop-fact l = (i : ℕ) → i < l.fact-index → IsMetInside (slice_index (facts_of l.system.bounds l.point) i) l.values l.point (range_at l.system.bounds (slice_index (facts_of l.system.bounds l.point) i)) None
