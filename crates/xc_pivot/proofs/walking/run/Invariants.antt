use Rattle.std.proofs.Common.{◌-◌, ◌^◌}
use Rattle.xc_corners.specs.Corners.{variables}
use Rattle.xc_corners.specs.WholeNumbers.{whole_problem}
use Rattle.xc_pivot.specs.States.{IsShaped}
use Rattle.xc_pivot.specs.Walks.{AtTurn}
use Rattle.xc_pivot.proofs.walking.run.Given as goal

abbrev pub invariant-loop-choice : goal.invariant-loop-choice
invariant-loop-choice g l = record {
  shaped : IsShaped l.problem l.state;
  turn : AtTurn l.problem l.turns l.state;
}

abbrev pub decreases-loop-choice : goal.decreases-loop-choice
decreases-loop-choice g l = 3 ^ variables (whole_problem l.problem) - l.turns
