use Rattle.std.proofs.Common.{◌≡◌, length}
use Rattle.xc_joint.specs.Steps.Settling.{AreGathered, HaveCause}
use Rattle.xc_joint.proofs.settling.gather.Given as goal

abbrev pub invariant-loop-component : goal.invariant-loop-component
invariant-loop-component l = record {
  count : length l.all.items ≡ l.system.points;
  each : length l.parts.items ≡ l.component-index;
  gathered : AreGathered l.system l.components l.parts.items l.all.items;
  caused : HaveCause l.parts.items l.caused;
  sums : length l.scratch.sums ≡ l.system.points;
  stops : length l.scratch.stops ≡ l.system.points;
}
