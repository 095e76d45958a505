use Rattle.std.proofs.Common.{◌≡◌, length}
use Rattle.xc_joint.proofs.settling.zero_values.Given as goal

abbrev pub invariant-loop-point : goal.invariant-loop-point
invariant-loop-point l = length l.zeros.items ≡ l._point
