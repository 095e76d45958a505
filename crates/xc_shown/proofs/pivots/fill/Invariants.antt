use Rattle.std.proofs.Common.{◌≡◌}
use Rattle.xc_shown.proofs.pivots.fill.Given as goal

abbrev pub invariant-loop-row : goal.invariant-loop-row
invariant-loop-row l = (l.table.rows ≡ l.rows) × (l.table.columns ≡ l.columns)
