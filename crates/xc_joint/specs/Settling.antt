-- Systems that are always settled.
use Rattle.std.specs.Prelude.{◌≡◌, ℕ}
use Rattle.xc_frac.specs.declared.wide.Wide.{Wide}
use Rattle.xc_joint.specs.Answers.{IsAnswer}
use Rattle.xc_joint.specs.Causes.{EndsPass, HasNoEmpty}
use Rattle.xc_joint.specs.declared.types.Joint.{Joint}
use Rattle.xc_joint.specs.declared.types.Joint.TheVariants.{Settled}
use Rattle.xc_system.specs.Components.{IsComponent}
use Rattle.xc_system.specs.Forests.{IsNarrowForest}
use Rattle.xc_system.specs.Systems.{Constraints}
use Rattle.xc_system.specs.declared.types.Certificate.{Certificate}
use Rattle.xc_system.specs.declared.types.Component.{Component}

-- every component without an empty point is a narrow forest, and no operation passes in the checker's constant of an empty point
pub record HasNarrowForests (s : Constraints) : Type 0 where
  pub forest : (c : Component) → IsComponent s c → HasNoEmpty s c → IsNarrowForest s c
  pub ends : (c : Component) → IsComponent s c → (low high : ℕ) (w : Wide) → ¬ EndsPass s c low high w

-- the answer to such a system is a certificate: no component of it is without an answer
abbrev pub NarrowForestsAreSettled : Type 0
NarrowForestsAreSettled = (s : Constraints) (joint : Joint) → HasNarrowForests s → IsAnswer s joint → (certificate : Certificate) × (joint ≡ Settled certificate)
