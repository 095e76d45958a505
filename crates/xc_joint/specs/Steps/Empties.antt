-- An empty point that was found, and its refutation.
use Rattle.std.specs.Prelude.{◌≡◌, ℕ, Ok}
use Rattle.xc_interval.specs.declared.range.Range.TheVariants as range
use Rattle.xc_joint.specs.Causes.{IsCause, IsEmptyPoint, IsFirstEmpty, IsOfFirstEmpty}
use Rattle.xc_joint.specs.declared.empties.EmptyPoint.{EmptyPoint}
use Rattle.xc_joint.specs.declared.empties.Ended.{Ended}
use Rattle.xc_joint.specs.declared.empties.Ended.TheVariants.{Refuted, Passes}
use Rattle.xc_joint.specs.declared.types.Cause.{Cause}
use Rattle.xc_joint.specs.declared.types.Cause.TheVariants.{Ends}
use Rattle.xc_model.specs.Ratio.{Ratio}
use Rattle.xc_system.specs.Kept.{Multipliers}
use Rattle.xc_system.specs.Refutations.{IsContradictionOf}
use Rattle.xc_system.specs.Spots.{AreTightest}
use Rattle.xc_system.specs.Systems.{Constraints, facts_of}
use Rattle.xc_system.specs.declared.types.Component.{Component}
use Rattle.xc_verify.specs.Infeasible.{constant_terms}
use Rattle.xc_verify.specs.Sums.{IsSumOf}

-- the facts whose ends are the tightest of those of the point, low and high
abbrev pub HasTightest : Constraints → EmptyPoint → Type 0
HasTightest s found = AreTightest s.bounds (facts_of s.bounds found.point) range.Empty found.low found.high

-- what is found at a point: that it is empty, with these facts
pub record IsEmptyAt (s : Constraints) (p : ℕ) (found : EmptyPoint) : Type 0 where
  pub point : found.point ≡ p
  pub empty : IsEmptyPoint s p
  pub tightest : HasTightest s found

-- the first empty point of a component, with these facts
pub record IsFirstFound (s : Constraints) (c : Component) (found : EmptyPoint) : Type 0 where
  pub first : IsFirstEmpty s c found.point
  pub tightest : HasTightest s found

-- the refutation by the first empty point: it contradicts the component, which has no cause
pub record IsRefutedEmpty (s : Constraints) (c : Component) (found : EmptyPoint) (r : Multipliers) : Type 0 where
  pub own : IsOfFirstEmpty s c r found.low found.high
  pub contradicts : IsContradictionOf s c r
  pub uncaused : (cause : Cause) → ¬ IsCause s c cause
  pub constant : (x : Ratio) × IsSumOf (constant_terms s r) (Ok x)

-- what becomes of the component
abbrev pub IsEnded : Constraints → Component → EmptyPoint → Ended → Type 0
IsEnded s c found (Refuted r) = IsRefutedEmpty s c found r
IsEnded s c found (Passes w) = IsCause s c (Ends found.low found.high w)
