use Rattle.std.proofs.Common.{◌≡◌, length}
use Rattle.xc_pivot.proofs.solving.zero_values.Given as goal

abbrev pub invariant-loop-range : goal.invariant-loop-range
invariant-loop-range l = record { count : length l.values.items ≡ l._range }
