use Rattle.std.proofs.Common.{◌≡◌}
use Rattle.xc_shown.proofs.pivots.fill_row.Given as goal

abbrev pub invariant-loop-column : goal.invariant-loop-column
invariant-loop-column l = (l.table.rows ≡ l.fn.table.rows) × (l.table.columns ≡ l.columns)
