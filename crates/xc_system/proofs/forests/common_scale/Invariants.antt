use Rattle.std.proofs.Common.{ℕ, ◌<◌, get_or}
use Rattle.xc_interval.specs.Scales.{IsMultipleOf}
use Rattle.xc_system.specs.Steps.Measured.{AreOver}
use Rattle.xc_system.specs.Systems.{facts_of}
use Rattle.xc_system.proofs.forests.common_scale.Given as goal

-- over the points so far
abbrev pub invariant-loop-point : goal.invariant-loop-point
invariant-loop-point l = IsMultipleOf 1 (λ m. (k d : ℕ) → k < l.point-index → AreOver l.system.bounds (facts_of l.system.bounds (get_or l.points k d)) m) l.scale
