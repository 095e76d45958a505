use Rattle.std.proofs.Common.{◌≡◌, ℕ, ◌<◌, Ok}
use Rattle.xc_verify.specs.Steps.Running.{sum_at}
use Rattle.xc_verify.specs.Sums.{zero_ratio}
use Rattle.xc_verify.proofs.scratch.clear.Given as goal

abbrev pub invariant-loop-point : goal.invariant-loop-point
invariant-loop-point l = (p : ℕ) → p < l.point → sum_at l.sums l.stops p ≡ Ok zero_ratio
