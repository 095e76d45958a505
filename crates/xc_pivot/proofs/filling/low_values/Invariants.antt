use Rattle.std.proofs.Common.{◌≡◌, ℕ, ◌<◌, length}
use Rattle.xc_pivot.specs.Firsts.{HasLowSums, LowStays}
use Rattle.xc_pivot.proofs.filling.low_values.Given as goal

abbrev pub invariant-loop-row : goal.invariant-loop-row
invariant-loop-row l = record {
  count : length l.values ≡ length l.initial.values;
  is : HasLowSums l.problem l.row l.values;
  stays : (i : ℕ) → i < l.row → LowStays l.problem i (length l.problem.ranges);
}
