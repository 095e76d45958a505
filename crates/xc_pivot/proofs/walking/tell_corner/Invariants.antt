use Rattle.xc_pivot.specs.States.{is_row, is_high}
use Rattle.xc_pivot.specs.Walks.{IsListOf}
use Rattle.xc_pivot.proofs.walking.tell_corner.Given as goal

abbrev pub invariant-loop-variable : goal.invariant-loop-variable
invariant-loop-variable l = record {
  basic : IsListOf is_row l.places l.variable l.basic.items;
  high : IsListOf is_high l.places l.variable l.high.items;
}
