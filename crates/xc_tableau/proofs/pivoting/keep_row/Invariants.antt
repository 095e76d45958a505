use Rattle.std.proofs.Common.{◌≡◌, length}
use Rattle.xc_tableau.specs.Steps.{RowDone, RowsKept}
use Rattle.xc_tableau.proofs.pivoting.keep_row.Given as goal

abbrev pub invariant-loop-column : goal.invariant-loop-column
invariant-loop-column l = record {
  room : length l.new ≡ length l.initial.new;
  done : RowDone l.pivot l.entries l.row l.column l.new;
  kept : RowsKept l.pivot l.row l.initial.new l.new;
}
