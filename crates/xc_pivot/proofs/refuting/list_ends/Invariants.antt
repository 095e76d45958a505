use Rattle.xc_corners.specs.Conflicts.{opposite_if, multiplier, IsPositive, AreLinesOf}
use Rattle.xc_corners.specs.Corners.{Corner, Factors}
use Rattle.xc_pivot.specs.States.{IsAt}
use Rattle.xc_pivot.proofs.refuting.list_ends.Given as goal

abbrev pub invariant-loop-variable : goal.invariant-loop-variable
invariant-loop-variable l = record {
  are : (x : Corner) (t : Factors) → IsAt l.problem l.state x t
      → AreLinesOf l.variable (λ j. opposite_if l.fn.is_turned (multiplier x t l.fn.leaving.above l.fn.leaving.variable j)) IsPositive t.over l.list.items;
}
