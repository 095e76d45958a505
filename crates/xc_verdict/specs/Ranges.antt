-- The points that a binding names, and their ranges.
use Rattle.std.specs.Prelude.{ℕ, List, [], ◌∷◌, ◌⊎◌, map, Option, Some, None, slice_get}
use Rattle.xc_bind.specs.declared.types.Binding.{Binding}
use Rattle.xc_bind.specs.declared.types.Term.{Term}
use Rattle.xc_interval.specs.declared.range.Range.{Range}
use Rattle.xc_interval.specs.declared.range.Range.TheVariants as range
use Rattle.xc_points.specs.declared.types.Point.{Point}

-- the number of a term's point
abbrev pub point_of : Term → ℕ
point_of term = term.point

-- the numbers of the points of a total and its terms
abbrev pub named_points : Binding → List ℕ
named_points binding = binding.total ∷ map point_of binding.terms

-- one of these numbers has the property
abbrev pub SomeHas : (ℕ → Type 0) → List ℕ → Type 0
SomeHas P [] = ⊥
SomeHas P (k ∷ ks) = P k ⊎ SomeHas P ks

-- each of these numbers has the property
abbrev pub EachHas : (ℕ → Type 0) → List ℕ → Type 0
EachHas P [] = Unit {0}
EachHas P (k ∷ ks) = P k × EachHas P ks

-- the range of a point, if there is one; a point that is not there is taken for a wide one
abbrev pub range_if : Option Point → Range
range_if (Some point) = point.range
range_if None = range.Wide

-- the range of point number k
abbrev pub range_at : List Point → ℕ → Range
range_at points k = range_if (slice_get points k)
