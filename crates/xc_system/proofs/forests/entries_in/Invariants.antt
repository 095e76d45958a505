use Rattle.std.proofs.Common.{◌≡◌, ◌≤◌, ◌*◌, ◌^◌, take}
use Rattle.xc_system.specs.Steps.Measured.{entries_of}
use Rattle.xc_system.proofs.forests.entries_in.Given as goal

abbrev pub invariant-loop-number : goal.invariant-loop-number
invariant-loop-number l = record {
  sum : l.entries ≡ entries_of l.equations (take l.number-index l.numbers);
  few : l.entries ≤ 2 ^ 63 * l.number-index;
}
