use Rattle.std.proofs.Common.{◌≡◌, take}
use Rattle.std.specs.Prelude.{sum_by}
use Rattle.xc_interval.specs.Scales.{saturated}
use Rattle.xc_system.specs.Steps.Measured.{reach_at}
use Rattle.xc_system.specs.Systems.{facts_of}
use Rattle.xc_system.proofs.forests.total_reach.Given as goal

abbrev pub invariant-loop-point : goal.invariant-loop-point
invariant-loop-point l = l.total ≡ saturated (sum_by (λ p. sum_by (reach_at l.system.bounds l.scale) (facts_of l.system.bounds p)) (take l.point-index l.points))
