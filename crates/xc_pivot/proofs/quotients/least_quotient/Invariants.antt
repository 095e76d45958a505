use Rattle.xc_corners.specs.Corners.{Corner, Factors}
use Rattle.xc_corners.specs.WholeNumbers.{whole_problem}
use Rattle.xc_pivot.specs.Quotients.{below_seen, IsLeastOf, SeenStay}
use Rattle.xc_pivot.specs.States.{IsAt}
use Rattle.xc_pivot.proofs.quotients.least_quotient.Given as goal

abbrev pub invariant-loop-variable : goal.invariant-loop-variable
invariant-loop-variable l = record {
  is : (x : Corner) (t : Factors) → IsAt l.problem l.state x t → IsLeastOf (whole_problem l.problem) x t (below_seen l.variable) l.least;
  stays : (x : Corner) (t : Factors) → IsAt l.problem l.state x t → SeenStay (whole_problem l.problem) x t (below_seen l.variable);
}
