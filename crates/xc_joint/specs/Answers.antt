-- The answer to the joint question.
use Rattle.std.specs.Prelude.{◌≡◌, ℕ, ◌<◌, ◌==◌, pos, List, [], ◌∷◌, Some, length, slice_get, if◌then◌else◌}
use Rattle.xc_joint.specs.Causes.{HasNoCause, IsCause, IsFirstEmpty, IsOfFirstEmpty}
use Rattle.xc_joint.specs.declared.types.Cause.{Cause}
use Rattle.xc_joint.specs.declared.types.Joint.{Joint}
use Rattle.xc_joint.specs.declared.types.Joint.TheVariants.{Settled, TooWide}
use Rattle.xc_joint.specs.declared.types.Part.{Part}
use Rattle.xc_joint.specs.declared.types.Part.TheVariants.{Values, Wide}
use Rattle.xc_model.specs.Fraction.{whole}
use Rattle.xc_model.specs.Ratio.{Ratio, fraction_of}
use Rattle.xc_system.specs.Components.{AreComponents, IsComponent}
use Rattle.xc_system.specs.Kept.{Multipliers}
use Rattle.xc_system.specs.Refutations.{IsContradictionOf}
use Rattle.xc_system.specs.Solutions.{Assignment, SolvesPart}
use Rattle.xc_system.specs.Systems.{Constraints}
use Rattle.xc_system.specs.declared.types.Certificate.TheVariants.{Feasible, Infeasible}
use Rattle.xc_system.specs.declared.types.Component.{Component}
use Rattle.xc_verify.specs.Judgements.{IsJudgement, Proves}
use Rattle.xc_verify.specs.declared.types.Judgement.TheVariants.{Accepted}

-- ---- parts

-- the assignment of these values to these points, in order, and of 0 to all others
abbrev pub assignment_at : List ℕ → List Ratio → Assignment
assignment_at [] values p = whole (pos 0)
assignment_at (q ∷ qs) [] p = whole (pos 0)
assignment_at (q ∷ qs) (value ∷ values) p = if p == q then fraction_of value else assignment_at qs values p

-- a value for each point of a component, by which it is solved
pub record AreValuesOf (s : Constraints) (c : Component) (values : List Ratio) : Type 0 where
  pub each : length values ≡ length c.points
  pub solve : SolvesPart s c (assignment_at c.points values)

-- what is found of a component: values where it has no cause, or why it has no answer
abbrev pub IsPart : Constraints → Component → Part → Type 0
IsPart s c (Values values) = AreValuesOf s c values × HasNoCause s c
IsPart s c (Wide cause) = IsCause s c cause

-- ---- answers

-- multipliers that contradict component k, which has no cause, whereas each earlier one has values or a cause; where the component has
-- an empty point, they are those of its first
pub record IsRefuted (s : Constraints) (r : Multipliers) : Type 0 where
  pub components : List Component
  pub are : AreComponents s components
  pub k : ℕ
  pub component : Component
  pub there : slice_get components k ≡ Some component
  pub contradicts : IsContradictionOf s component r
  pub uncaused : HasNoCause s component
  pub empty : (p : ℕ) → IsFirstEmpty s component p → (low high : ℕ) × IsOfFirstEmpty s component r low high
  pub earlier : (j : ℕ) (c : Component) → j < k → slice_get components j ≡ Some c → (part : Part) × IsPart s c part

-- a part for each component, at least one of which is a cause
pub record ArePartsOf (s : Constraints) (parts : List Part) : Type 0 where
  pub components : List Component
  pub are : AreComponents s components
  pub each : length parts ≡ length components
  pub part : (k : ℕ) (c : Component) (part : Part) → slice_get components k ≡ Some c → slice_get parts k ≡ Some part → IsPart s c part
  pub some : (k : ℕ) × (cause : Cause) × (slice_get parts k ≡ Some (Wide cause))

-- no component of the system has a cause
abbrev pub HasNoCauses : Constraints → Type 0
HasNoCauses s = (c : Component) → IsComponent s c → HasNoCause s c

-- the answer to the joint question: values for all points that solve the system, where no component has a cause; or multipliers that
-- contradict a component; the checker accepts both. Or parts
abbrev pub IsAnswer : Constraints → Joint → Type 0
IsAnswer s (Settled (Feasible values)) = Proves s (Feasible values) × IsJudgement s (Feasible values) Accepted × HasNoCauses s
IsAnswer s (Settled (Infeasible r)) = IsRefuted s r × IsJudgement s (Infeasible r) Accepted
IsAnswer s (TooWide parts) = ArePartsOf s parts
