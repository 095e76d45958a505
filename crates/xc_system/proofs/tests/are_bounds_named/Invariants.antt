use Rattle.std.proofs.Common.{ℕ, ◌<◌, get_or}
use Rattle.xc_system.specs.declared.types.Bound.{Bound}
use Rattle.xc_system.proofs.tests.are_bounds_named.Given as goal

abbrev pub invariant-loop-bound : goal.invariant-loop-bound
invariant-loop-bound l = (k : ℕ) (d : Bound) → k < l.bound-index → (get_or l.bounds k d).point < l.points
