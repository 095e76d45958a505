-- What is found of one component, and the values of all points.
use Rattle.std.specs.Prelude.{◌≡◌, ℕ, ◌<◌, Bool, true, false, List, Some, Ok, slice_get, length}
use Rattle.xc_joint.specs.Answers.{AreValuesOf, IsPart}
use Rattle.xc_joint.specs.Causes.{HasNoCause, IsCause, IsFirstEmpty, IsOfFirstEmpty}
use Rattle.xc_joint.specs.Lists.{AreAmong}
use Rattle.xc_joint.specs.Steps.UnitSums.{HasSums}
use Rattle.xc_joint.specs.declared.settling.Found.{Found}
use Rattle.xc_joint.specs.declared.settling.Found.TheVariants as found
use Rattle.xc_joint.specs.declared.forests.Settlement.{Settlement}
use Rattle.xc_joint.specs.declared.forests.Settlement.TheVariants as settlement
use Rattle.xc_joint.specs.declared.types.Cause.{Cause}
use Rattle.xc_joint.specs.declared.types.Part.{Part}
use Rattle.xc_joint.specs.declared.types.Part.TheVariants.{Values, Wide}
use Rattle.xc_model.specs.Ratio.{Ratio}
use Rattle.xc_system.specs.Kept.{Multipliers}
use Rattle.xc_lists.specs.Members.{IsIn}
use Rattle.xc_system.specs.Refutations.{IsContradictionOf}
use Rattle.xc_system.specs.Systems.{Constraints, equation_at}
use Rattle.xc_system.specs.declared.types.Component.{Component}
use Rattle.xc_verify.specs.Feasible.{equation_terms}
use Rattle.xc_verify.specs.Sums.{IsSumOf}

-- the same of the first n of these points
abbrev pub AreFirstAmong : ℕ → List ℕ → List Ratio → List Ratio → Type 0
AreFirstAmong n points values all = (i p : ℕ) (x : Ratio) → i < n → slice_get points i ≡ Some p → slice_get values i ≡ Some x → slice_get all p ≡ Some x

-- where the checker sums the equations of a component with these values, no operation passes
abbrev pub HaveSums : Constraints → Component → List Ratio → Type 0
HaveSums s c values = (all : List Ratio) → length all ≡ s.points → AreAmong c.points values all → (i : ℕ) → IsIn i c.equations → (x : Ratio) × IsSumOf (equation_terms all (equation_at s.equations i).entries) (Ok x)

-- what becomes of a narrow forest: values that solve it, or a refutation
abbrev pub IsSettlement : Constraints → Component → Settlement → Type 0
IsSettlement s c (settlement.Values values) = AreValuesOf s c values × HaveSums s c values
IsSettlement s c (settlement.Refuted r) = IsContradictionOf s c r × HasSums s r

-- the refutation of a component without a cause
pub record IsRefutedBy (s : Constraints) (c : Component) (r : Multipliers) : Type 0 where
  pub contradicts : IsContradictionOf s c r
  pub uncaused : HasNoCause s c
  pub empty : (p : ℕ) → IsFirstEmpty s c p → (low high : ℕ) × IsOfFirstEmpty s c r low high
  pub sums : HasSums s r

-- what is found of a component: values where it has no cause, a refutation or a cause
abbrev pub IsFound : Constraints → Component → Found → Type 0
IsFound s c (found.Values values) = AreValuesOf s c values × HaveSums s c values × HasNoCause s c
IsFound s c (found.Refuted r) = IsRefutedBy s c r
IsFound s c (found.Wide cause) = IsCause s c cause

-- of each of the first components a part is there, and values of it stand among those of all points
pub record AreGathered (s : Constraints) (cs : List Component) (parts : List Part) (all : List Ratio) : Type 0 where
  pub part : (k : ℕ) (c : Component) (part : Part) → slice_get cs k ≡ Some c → slice_get parts k ≡ Some part → IsPart s c part
  pub among : (k : ℕ) (c : Component) (values : List Ratio) → slice_get cs k ≡ Some c → slice_get parts k ≡ Some (Values values) → AreAmong c.points values all × HaveSums s c values

-- some part is a cause, or each has values
abbrev pub HaveCause : List Part → Bool → Type 0
HaveCause parts true = (k : ℕ) × (cause : Cause) × (slice_get parts k ≡ Some (Wide cause))
HaveCause parts false = (k : ℕ) (part : Part) → slice_get parts k ≡ Some part → (values : List Ratio) × (part ≡ Values values)
