use Rattle.std.proofs.Common.{◌≡◌, length}
use Rattle.xc_tableau.specs.Steps.{EnteringDone, OthersDone}
use Rattle.xc_tableau.proofs.pivoting.fill_others.Given as goal

abbrev pub invariant-loop-row : goal.invariant-loop-row
invariant-loop-row l = record {
  room : length l.new ≡ length l.initial.new;
  entering : EnteringDone l.pivot l.entries l.pivot.columns l.new;
  done : OthersDone l.pivot l.entries l.row l.new;
}
