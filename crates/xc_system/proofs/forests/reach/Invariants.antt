use Rattle.std.proofs.Common.{◌≡◌, take}
use Rattle.std.specs.Prelude.{sum_by}
use Rattle.xc_interval.specs.Scales.{saturated}
use Rattle.xc_system.specs.Steps.Measured.{reach_at}
use Rattle.xc_system.proofs.forests.reach.Given as goal

abbrev pub invariant-loop-fact : goal.invariant-loop-fact
invariant-loop-fact l = l.total ≡ saturated (sum_by (reach_at l.bounds l.scale) (take l.fact-index l.facts))
