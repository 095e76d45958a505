-- A step of the code: which points may be totals of a network.
use Rattle.std.specs.Prelude.{ℕ, Bool, false, List, Option, Some, None, slice_get}
use Rattle.std.specs.List.{list_any}
use Rattle.std.specs.Option.{option_map_or}
use Rattle.xc_bind.specs.Bindings.{binding_of, leads_from}
use Rattle.xc_bind.specs.declared.types.Binding.{Binding}
use Rattle.xc_calc.specs.declared.arc.Arc.{Arc}
use Rattle.xc_points.specs.declared.types.Point.{Point}

-- one of these arcs leads from the concept of the point with this number
abbrev pub is_total : List Point → List Arc → ℕ → Bool
is_total points arcs number = option_map_or (λ point. list_any (leads_from point.concept) arcs) (slice_get points number) false

-- the binding in a network of a point with this number, where there is such a point
abbrev pub binding_where : List Point → ℕ → List Arc → ℕ → Option Point → Option Binding
binding_where points network arcs number None = None
binding_where points network arcs number (Some total) = binding_of points network arcs (number, total)

-- the binding in a network of the point with this number
abbrev pub binding_at : List Point → ℕ → List Arc → ℕ → Option Binding
binding_at points network arcs number = binding_where points network arcs number (slice_get points number)
