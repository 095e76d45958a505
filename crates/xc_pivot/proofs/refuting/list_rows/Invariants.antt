use Rattle.std.proofs.Common.{◌+◌, length}
use Rattle.xc_corners.specs.Conflicts.{multiplier, IsNonzero, AreLinesOf}
use Rattle.xc_corners.specs.Corners.{Corner, Factors}
use Rattle.xc_pivot.specs.States.{IsAt}
use Rattle.xc_pivot.proofs.refuting.list_rows.Given as goal

abbrev pub invariant-loop-row : goal.invariant-loop-row
invariant-loop-row l = record {
  are : (x : Corner) (t : Factors) → IsAt l.problem l.state x t
      → AreLinesOf l.row (λ i. multiplier x t l.fn.leaving.above l.fn.leaving.variable (length l.problem.ranges + i)) IsNonzero t.over l.list.items;
}
