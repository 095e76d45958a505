use Rattle.std.proofs.Common.{◌≡◌, ℕ, ◌<◌, length, Some, slice_get}
use Rattle.xc_corners.specs.Corners.{Corner, Factors}
use Rattle.xc_corners.specs.Ending.{IsValueWith}
use Rattle.xc_corners.specs.WholeNumbers.{whole_problem}
use Rattle.xc_model.specs.Ratio.{Ratio}
use Rattle.xc_pivot.specs.SmallValues.{ValueStays}
use Rattle.xc_pivot.specs.States.{IsAt}
use Rattle.xc_pivot.proofs.small.put_values.Given as goal

abbrev pub invariant-loop-variable : goal.invariant-loop-variable
invariant-loop-variable l = record {
  count : length l.values ≡ length l.initial.values;
  are : (x : Corner) (t : Factors) → IsAt l.problem l.state x t → (j : ℕ) (v : Ratio) → j < l.variable → slice_get l.values j ≡ Some v → IsValueWith (whole_problem l.problem) x t l.small j v;
  stays : (x : Corner) (t : Factors) → IsAt l.problem l.state x t → (j : ℕ) → j < l.variable → ValueStays (whole_problem l.problem) x t l.small j;
}
