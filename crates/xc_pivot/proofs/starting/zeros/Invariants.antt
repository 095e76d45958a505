use Rattle.std.proofs.Common.{◌≡◌, length}
use Rattle.xc_pivot.proofs.starting.zeros.Given as goal

abbrev pub invariant-loop-row : goal.invariant-loop-row
invariant-loop-row l = length l.values.items ≡ l._row
