use Rattle.std.proofs.Common.{◌≡◌, ℕ, ◌<◌, true}
use Rattle.xc_corners.specs.Corners.{Corner, Factors, IsWithin}
use Rattle.xc_corners.specs.WholeNumbers.{whole_problem}
use Rattle.xc_pivot.specs.States.{IsAt}
use Rattle.xc_pivot.proofs.choosing.leaving_variable.Given as goal

abbrev pub invariant-loop-variable : goal.invariant-loop-variable
invariant-loop-variable l = record {
  within : (x : Corner) (t : Factors) → IsAt l.problem l.state x t → (k : ℕ) → k < l.variable → x.basic k ≡ true → IsWithin (whole_problem l.problem) x t k;
}
