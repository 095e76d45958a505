use Rattle.std.proofs.Common.{Bool}
use Rattle.xc_corners.specs.Operations.{IsLowSum}
use Rattle.xc_pivot.specs.Deltas.{of_part}
use Rattle.xc_pivot.specs.Firsts.{LowStays}
use Rattle.xc_pivot.proofs.filling.low_value.Given as goal

abbrev pub invariant-loop-column : goal.invariant-loop-column
invariant-loop-column l = record {
  is : (c : Bool) → IsLowSum l.problem l.row c l.column (of_part l.value c);
  stays : LowStays l.problem l.row l.column;
}
