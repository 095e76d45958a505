-- What becomes of a component that is solved along the corners of its problem.
use Rattle.std.specs.Prelude.{◌≡◌, ◌<◌, ◌⊎◌, ℕ, List, Ok, Err}
use Rattle.xc_corners.specs.Choices.{IsReached}
use Rattle.xc_corners.specs.Corners.{Corner, CornerLists}
use Rattle.xc_corners.specs.WholeNumbers.{whole_problem}
use Rattle.xc_corners.specs.declared.problem.Problem.{Problem}
use Rattle.xc_frac.specs.declared.wide.Wide.{Wide}
use Rattle.xc_joint.specs.Answers.{AreValuesOf}
use Rattle.xc_joint.specs.CornerCauses.{CornerPasses, IsRefutationAt}
use Rattle.xc_joint.specs.Steps.Settling.{HaveSums}
use Rattle.xc_joint.specs.Steps.UnitSums.{HasSums}
use Rattle.xc_joint.specs.declared.by_corners.Checked.{Checked}
use Rattle.xc_joint.specs.declared.by_corners.Checked.TheVariants.{Summed, Passes}
use Rattle.xc_joint.specs.declared.by_corners.Cornered.{Cornered}
use Rattle.xc_joint.specs.declared.by_corners.Cornered.TheVariants.{Values, Refuted, TooWide}
use Rattle.xc_lists.specs.Members.{IsIn}
use Rattle.xc_model.specs.Ratio.{Ratio}
use Rattle.xc_pivot.specs.Solving.{NothingStops}
use Rattle.xc_system.specs.Kept.{Multipliers}
use Rattle.xc_system.specs.Refutations.{IsContradictionOf}
use Rattle.xc_system.specs.Systems.{Constraints, equation_at}
use Rattle.xc_system.specs.declared.types.Certificate.{Certificate}
use Rattle.xc_system.specs.declared.types.Certificate.TheVariants.{Feasible, Infeasible}
use Rattle.xc_system.specs.declared.types.Component.{Component}
use Rattle.xc_verify.specs.Feasible.{equation_terms}
use Rattle.xc_verify.specs.Infeasible.{coefficient_terms, constant_terms}
use Rattle.xc_verify.specs.Sums.{IsSumOf}
use Rattle.xc_verify.specs.declared.types.Judgement.{Judgement}
use Rattle.xc_verify.specs.declared.types.Judgement.TheVariants as judgement
use Rattle.xc_verify.specs.declared.types.Judgement.TheVariants.{Accepted, Misses, WideFact}

-- at no corner of the component's problem an operation passes
abbrev pub NothingPassesAtCorners : Constraints → Component → Type 0
NothingPassesAtCorners s c = (lists : CornerLists) (w : Wide) → ¬ CornerPasses s c lists w

-- values that solve it, or a refutation, in whose sums no operation passes, where none passes at a corner; or a corner and an operation
-- that passes there
abbrev pub IsCornered : Constraints → Component → Cornered → Type 0
IsCornered s c (Values values) = AreValuesOf s c values × HaveSums s c values × NothingPassesAtCorners s c
IsCornered s c (Refuted r) = IsContradictionOf s c r × HasSums s r × NothingPassesAtCorners s c
IsCornered s c (TooWide corner w) = CornerPasses s c corner w

-- no operation passes where the equations of the component are summed over these values of all points
abbrev pub SumsPassNowhere : Constraints → Component → List Ratio → Type 0
SumsPassNowhere s c all = (i : ℕ) → IsIn i c.equations → (x : Ratio) × IsSumOf (equation_terms all (equation_at s.equations i).entries) (Ok x)

-- w passes in one of these sums
abbrev pub PassesInSum : Constraints → Component → List Ratio → Wide → Type 0
PassesInSum s c all w = (i : ℕ) × IsIn i c.equations × IsSumOf (equation_terms all (equation_at s.equations i).entries) (Err w)

-- w passes where the checker sums the coefficient of a point, or the constant
abbrev pub PassesInRefutation : Constraints → Multipliers → Wide → Type 0
PassesInRefutation s r w = ((p : ℕ) × (p < s.points) × IsSumOf (coefficient_terms s r p) (Err w)) ⊎ IsSumOf (constant_terms s r) (Err w)

-- the judgement names w
abbrev pub NamesPassing : Judgement → Wide → Type 0
NamesPassing Accepted w = ⊥
NamesPassing (Misses what) w = ⊥
NamesPassing (WideFact k) w = ⊥
NamesPassing (judgement.TooWide what v) w = v ≡ w

-- the certificate is a refutation
abbrev pub IsInfeasible : Certificate → Type 0
IsInfeasible (Feasible values) = ⊥
IsInfeasible (Infeasible r) = Unit {0}

-- the same refutation, in whose sums no operation passes; or one that does
abbrev pub IsChecked : Constraints → Multipliers → Checked → Type 0
IsChecked s r (Summed q) = (q ≡ r) × HasSums s r
IsChecked s r (Passes w) = PassesInRefutation s r w

-- the refutation is that of a conflict of the run, and no operation passes on the way to it
pub record IsOfConflict (s : Constraints) (c : Component) (problem : Problem) (r : Multipliers) : Type 0 where
  pub corner : Corner
  pub reached : IsReached (whole_problem problem) corner
  pub is : IsRefutationAt s c problem corner r
  pub nothing : NothingStops problem
