use Rattle.std.proofs.Common.{◌∷◌, map, take}
use Rattle.xc_interval.specs.Ranges.{IsRangeOf}
use Rattle.xc_system.specs.Systems.{range_at}
use Rattle.xc_system.proofs.spots.range_of.Given as goal

abbrev pub invariant-loop-fact : goal.invariant-loop-fact
invariant-loop-fact l = IsRangeOf (map (range_at l.bounds) (l.first ∷ take l.fact-index l.others)) l.range
