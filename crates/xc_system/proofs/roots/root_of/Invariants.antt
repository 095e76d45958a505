use Rattle.std.proofs.Common.{◌≡◌, ℕ, ◌<◌, length, slice_index_or}
use Rattle.xc_system.specs.Steps.Roots.{Descends, IsRoots}
use Rattle.xc_system.proofs.roots.root_of.Given as goal

abbrev pub invariant-loop-above : goal.invariant-loop-above
invariant-loop-above l = record {
  there : l.q < length l.up;
  above : slice_index_or l.up l.q 0 ≡ l.above;
  descends : Descends l.up;
  same : (root : ℕ → ℕ) → IsRoots l.fn.up root → IsRoots l.up root;
  root : (root : ℕ → ℕ) → IsRoots l.fn.up root → root l.q ≡ root l.fn.p;
}

abbrev pub decreases-loop-above : goal.decreases-loop-above
decreases-loop-above l = l.q
