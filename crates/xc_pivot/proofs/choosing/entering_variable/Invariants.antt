use Rattle.xc_pivot.specs.States.{NoneEnters}
use Rattle.xc_pivot.proofs.choosing.entering_variable.Given as goal

abbrev pub invariant-loop-variable : goal.invariant-loop-variable
invariant-loop-variable l = record {
  none : NoneEnters l.problem l.state l.leaving l.variable;
}
