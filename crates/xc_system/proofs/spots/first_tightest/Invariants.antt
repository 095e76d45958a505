use Rattle.std.proofs.Common.{◌∷◌, take}
use Rattle.std.specs.Prelude.{IsSome}
use Rattle.xc_system.specs.Spots.{HasTighter, IsFirstTightest}
use Rattle.xc_system.specs.Systems.{range_at}
use Rattle.xc_system.proofs.spots.first_tightest.Given as goal

abbrev pub invariant-loop-fact : goal.invariant-loop-fact
invariant-loop-fact l = record {
  known : IsSome (range_at l.bounds l.tightest);
  first : IsFirstTightest (HasTighter l.side l.bounds) (l.first ∷ take l.fact-index l.others) l.tightest;
}
