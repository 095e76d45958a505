-- What follows from the definitions for all networks and points.
use Rattle.std.specs.Prelude.{◌≡◌, List, map}
use Rattle.std.specs.Cmp.Lexicographic.{slice_cmp}
use Rattle.std.specs.List.Sorted.{IsStrictlySortedBy}
use Rattle.std.specs.Ordering.{nat_cmp}
use Rattle.xc_bind.specs.Bindings.{bindings_of}
use Rattle.xc_bind.specs.Judged.{AreBindings, by_role}
use Rattle.xc_bind.specs.Systems.{IsSystemOf}
use Rattle.xc_bind.specs.declared.types.Binding.{Binding}
use Rattle.xc_calc.specs.declared.arc.Network.{Network}
use Rattle.xc_interval.specs.declared.mode.Mode.{Mode}
use Rattle.xc_points.specs.Gathered.{ArePoints}
use Rattle.xc_points.specs.Kept.{AreDistinct, Gathered}
use Rattle.xc_points.specs.declared.types.Point.{Point}
use Rattle.xc_report.specs.declared.reports.Fact.{Fact}
use Rattle.xc_system.specs.Systems.{Constraints}

-- what is computed are the bindings
abbrev pub AreThose : Type 0
AreThose = (networks : List Network) (points : List Point) → AreDistinct points → AreBindings networks points (bindings_of networks points)

-- a report has one list of bindings
abbrev pub HasOneAnswer : Type 0
HasOneAnswer = (networks : List Network) (points : List Point) (one other : List Binding) → AreBindings networks points one → AreBindings networks points other → one ≡ other

-- bindings go by role as bytes, and then by total, where the networks go by role
abbrev pub GoByRole : Type 0
GoByRole = (networks : List Network) (points : List Point) → IsStrictlySortedBy (slice_cmp nat_cmp) (map (λ network. network.role) networks) → IsStrictlySortedBy (by_role networks) (bindings_of networks points)

-- the points of facts and their bindings have one system
abbrev pub HasOneSystem : Type 0
HasOneSystem = (mode : Mode) (facts : List Fact) (gathered : Gathered) (bindings : List Binding) (s t : Constraints) → ArePoints mode facts gathered
    → IsSystemOf gathered bindings s → IsSystemOf gathered bindings t → s ≡ t
