use Rattle.std.proofs.Common.{◌≡◌, length}
use Rattle.xc_tableau.specs.Steps.{EnteringDone}
use Rattle.xc_tableau.proofs.pivoting.fill_entering.Given as goal

abbrev pub invariant-loop-column : goal.invariant-loop-column
invariant-loop-column l = record {
  room : length l.new ≡ length l.initial.new;
  done : EnteringDone l.pivot l.entries l.column l.new;
}
