-- Refutations whose multipliers are units, and the sums by which a checker judges them.
use Rattle.std.specs.Prelude.{ℕ, ◌<◌, Ok, All, false}
use Rattle.xc_joint.specs.Steps.OneForest.{IsSign}
use Rattle.xc_model.specs.Ratio.{Ratio}
use Rattle.xc_system.specs.Components.{IsComponent}
use Rattle.xc_system.specs.Forests.{IsNarrowForest, IsUnit}
use Rattle.xc_system.specs.Kept.{Multipliers}
use Rattle.xc_system.specs.Refutations.{IsContradictionOf}
use Rattle.xc_system.specs.Systems.{Constraints, IsSmall, IsSystem}
use Rattle.xc_system.specs.declared.types.Component.{Component}
use Rattle.xc_verify.specs.Infeasible.{coefficient_terms, constant_terms}
use Rattle.xc_verify.specs.Sums.{IsSumOf}

-- equations are multiplied by 1 or -1, and ends by 1
pub record HasUnits (r : Multipliers) : Type 0 where
  pub bindings : All (λ m. IsUnit m.1) r.bindings
  pub lows : All (λ m. IsSign false m.1) r.lows
  pub highs : All (λ m. IsSign false m.1) r.highs

-- where the checker sums a refutation, no operation passes
pub record HasSums (s : Constraints) (r : Multipliers) : Type 0 where
  pub points : (p : ℕ) → p < s.points → (x : Ratio) × IsSumOf (coefficient_terms s r p) (Ok x)
  pub constant : (x : Ratio) × IsSumOf (constant_terms s r) (Ok x)

-- so it is where such a refutation contradicts a narrow forest
abbrev pub UnitRefutationsSum : Type 0
UnitRefutationsSum = (s : Constraints) (c : Component) (r : Multipliers) → IsSystem s → IsSmall s → IsComponent s c → IsNarrowForest s c → IsContradictionOf s c r → HasUnits r → HasSums s r
