use Rattle.std.proofs.Common.{◌≡◌, ℕ, ◌≤◌, ◌<◌}
use Rattle.xc_corners.specs.Operations.{IsZero}
use Rattle.xc_model.specs.Ratio.{Ratio}
use Rattle.xc_pivot.specs.Firsts.{HasSums, RowsStay}
use Rattle.xc_tableau.specs.Tables.{Has, IsFilled}
use Rattle.xc_pivot.proofs.filling.add_weights.Given as goal

abbrev pub invariant-loop-row : goal.invariant-loop-row
invariant-loop-row l = record {
  rows : l.table.rows ≡ l.initial.table.rows;
  columns : l.table.columns ≡ l.initial.table.columns;
  filled : IsFilled l.table;
  zeros : (i j : ℕ) (f : Ratio) → l.row ≤ i → i < l.table.rows → j < l.table.columns → Has l.table i j f → IsZero f;
  sums : HasSums l.problem l.row l.table;
  stays : RowsStay l.problem l.row;
}
