use Rattle.std.proofs.Common.{◌≡◌, ◌<◌, ℕ, length, slice_index, slice_get, Some}
use Rattle.xc_points.specs.Kept.{HasFact}
use Rattle.xc_points.specs.declared.types.Point.{Point}
use Rattle.xc_bind.proofs.constraints.owners.Given as goal

abbrev pub invariant-loop-fact : goal.invariant-loop-fact
invariant-loop-fact l = length l.owners.items ≡ l._fact

-- the facts of the points so far
abbrev pub invariant-loop-number : goal.invariant-loop-number
invariant-loop-number l = record {
  facts : length l.all ≡ length l.points.ends;
  owned : (k : ℕ) (point : Point) → k < l.number → slice_get l.points.points k ≡ Some point → (f : ℕ) → HasFact point f → slice_index l.all f ≡ k;
}
