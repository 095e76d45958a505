use Rattle.std.proofs.Common.{ℕ, ◌<◌}
use Rattle.xc_system.specs.Systems.{HasBound}
use Rattle.xc_system.proofs.tests.has_bounds.Given as goal

abbrev pub invariant-loop-p : goal.invariant-loop-p
invariant-loop-p l = (p : ℕ) → p < l.p → HasBound l.bounds p
