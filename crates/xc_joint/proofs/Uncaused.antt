-- What is found of a component without an empty point and without a wide fact has no cause beside it.
use Rattle.xc_joint.specs.Causes.{HasNoCause, HasNoEmpty, HasNoWide}
use Rattle.xc_joint.specs.Steps.ByCorners.{NothingPassesAtCorners}
use Rattle.xc_joint.specs.Steps.Settling.{IsRefutedBy}
use Rattle.xc_joint.specs.Steps.UnitSums.{HasSums}
use Rattle.xc_joint.specs.declared.types.Cause.TheVariants.{Corner, Ends, Fact}
use Rattle.xc_system.specs.Forests.{IsNarrowForest}
use Rattle.xc_system.specs.Kept.{Multipliers}
use Rattle.xc_system.specs.Refutations.{IsContradictionOf}
use Rattle.xc_system.specs.Systems.{Constraints}
use Rattle.xc_system.specs.declared.types.Component.{Component}

module _ (s : Constraints) (c : Component) (none_empty : HasNoEmpty s c) (none_wide : HasNoWide s c) where
  pub forest_uncaused : IsNarrowForest s c → HasNoCause s c
  forest_uncaused forest (Ends low high w) h = none_empty h.own.point h.own.first.there h.own.first.empty
  forest_uncaused forest (Fact k) h = none_wide k h.wide
  forest_uncaused forest (Corner lists w) h = h.other.no_forest forest

  pub corners_uncaused : NothingPassesAtCorners s c → HasNoCause s c
  corners_uncaused nothing (Ends low high w) h = none_empty h.own.point h.own.first.there h.own.first.empty
  corners_uncaused nothing (Fact k) h = none_wide k h.wide
  corners_uncaused nothing (Corner lists w) h = nothing lists w h.passes

  pub refuted_by : (r : Multipliers) → HasNoCause s c → IsContradictionOf s c r → HasSums s r → IsRefutedBy s c r
  refuted_by r none contradicts sums = record { contradicts = contradicts; uncaused = none; empty = λ p h. absurd (none_empty p h.there h.empty); sums = sums }
