use Rattle.std.proofs.Common.{◌≡◌, ℕ, ◌<◌, length, slice_index}
use Rattle.xc_system.specs.Steps.Roots.{IsJoined}
use Rattle.xc_system.proofs.roots.roots.Given as goal

abbrev pub invariant-loop-p : goal.invariant-loop-p
invariant-loop-p l = record {
  length : length l.up.items ≡ l.p;
  own : (q : ℕ) → q < l.p → slice_index l.up.items q ≡ q;
}

abbrev pub invariant-loop-i : goal.invariant-loop-i
invariant-loop-i l = record {
  length : length l.all ≡ l.points;
  joined : IsJoined l.equations l.i l.all;
}
