use Rattle.std.proofs.Common.{◌≡◌, take}
use Rattle.xc_pivot.specs.Firsts.{HasRowSums, EntriesStay, KeepsRows}
use Rattle.xc_tableau.specs.Tables.{IsFilled}
use Rattle.xc_pivot.proofs.filling.add_row.Given as goal

abbrev pub invariant-loop-entry : goal.invariant-loop-entry
invariant-loop-entry l = record {
  rows : l.table.rows ≡ l.initial.table.rows;
  columns : l.table.columns ≡ l.initial.table.columns;
  filled : IsFilled l.table;
  kept : KeepsRows l.initial.table l.row l.table;
  sums : HasRowSums l.table l.row (take l.entry-index l.entries);
  stays : EntriesStay l.entries l.entry-index;
}
