use Rattle.std.proofs.Common.{◌≡◌, length}
use Rattle.xc_system.proofs.scratch.Scratch.new.Given as goal

abbrev pub invariant-loop-point : goal.invariant-loop-point
invariant-loop-point l = record {
  marks : length l.marks.items ≡ l._point;
  sums : length l.sums.items ≡ l._point;
  stops : length l.stops.items ≡ l._point;
}
