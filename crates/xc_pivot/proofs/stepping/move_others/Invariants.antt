use Rattle.std.proofs.Common.{◌≡◌, ℕ, ◌≤◌, List, Some, length, slice_get}
use Rattle.xc_corners.specs.Corners.{Corner, Factors}
use Rattle.xc_corners.specs.Problems.{WholeProblem}
use Rattle.xc_frac.specs.declared.delta.Delta.{Delta}
use Rattle.xc_model.specs.Ratio.{Ratio}
use Rattle.xc_pivot.specs.Steps.{AreBasicAt, IsStepOf, AreMoved}
use Rattle.xc_pivot.specs.declared.types.Place.{Place}
use Rattle.xc_pivot.proofs.stepping.move_others.Given as goal

abbrev pub invariant-loop-row : goal.invariant-loop-row
invariant-loop-row l = record {
  count : length l.values ≡ length l.initial.values;
  kept : (r : ℕ) (d : Delta Ratio) → l.row ≤ r → slice_get l.values r ≡ Some d → slice_get l.initial.values r ≡ Some d;
  done : (p : WholeProblem) (x : Corner) (t : Factors) (places : List Place) → AreBasicAt p x t l.choice l.table places l.initial.values → IsStepOf p x t l.choice l.step
      → AreMoved p x t l.choice places l.row l.values;
}
