-- Bindings that name networks and points.
use Rattle.std.specs.Prelude.{◌<◌, List, length, All}
use Rattle.xc_bind.specs.declared.types.Binding.{Binding}
use Rattle.xc_bind.specs.declared.types.Term.{Term}
use Rattle.xc_calc.specs.declared.arc.Network.{Network}
use Rattle.xc_points.specs.declared.types.Point.{Point}

-- the binding's network is one of these
abbrev pub IsOfNetworks : List Network → Binding → Type 0
IsOfNetworks networks binding = binding.network < length networks

-- the term's point is one of these
abbrev pub IsInside : List Point → Term → Type 0
IsInside points term = term.point < length points

-- the binding's total and its contributors are among these points
pub record IsPlaced (points : List Point) (binding : Binding) : Type 0 where
  pub total : binding.total < length points
  pub terms : All (IsInside points) binding.terms
