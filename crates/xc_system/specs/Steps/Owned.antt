-- To which component an equation belongs, by the numbers of components that points have.
use Rattle.std.specs.Prelude.{ℕ, List, slice_get, slice_index}
use Rattle.std.specs.Option.{option_map_or}
use Rattle.xc_system.specs.declared.types.Component.{Component}
use Rattle.xc_system.specs.declared.types.Equation.{Equation}

-- the number of its first point, or the other where it has no point
abbrev pub owner_of : List ℕ → ℕ → Equation → ℕ
owner_of numbers none equation = option_map_or (λ entry. slice_index numbers entry.point) (slice_get equation.entries 0) none

-- points with equations
abbrev pub component_of : List ℕ × List ℕ → Component
component_of pair = record { points = pair.0; equations = pair.1 }
