use Rattle.std.proofs.Common.{◌≡◌, ℕ, ◌<◌, ◌≤◌, length, slice_index_or}
use Rattle.xc_system.specs.Steps.Roots.{IsRoots, rank}
use Rattle.xc_system.proofs.roots.numbers.Given as goal

abbrev pub invariant-loop-p : goal.invariant-loop-p
invariant-loop-p l = record {
  length : length l.numbers.items ≡ l.p;
  count : l.count ≡ rank l.up l.p;
  few : l.count ≤ l.p;
  numbers : (root : ℕ → ℕ) → IsRoots l.up root → (q : ℕ) → q < l.p → slice_index_or l.numbers.items q 0 ≡ rank l.up (root q);
}
