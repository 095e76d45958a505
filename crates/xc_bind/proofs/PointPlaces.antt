-- The number of the point of a concept with a key is the first place of the two.
use Rattle.std.proofs.Common.{◌≡◌, ◌<◌, ℕ, List, Some, length, map, refl, ◌∙◌, arith}
use Rattle.std.specs.Ordering.{nat_cmp, is_eq, ordering_then}
use Rattle.std.specs.declared.cmp.Ordering.{Ordering}
use Rattle.xc_bind.specs.Bindings.{is_point_of, number_of}
use Rattle.xc_bind.specs.Steps.Places.{place_at}
use Rattle.xc_points.specs.Places.{place_of}
use Rattle.xc_points.specs.declared.types.Place.{Place}
use Rattle.xc_lists.specs.Firsts.{first_equal}
use Rattle.xc_lists.proofs.Orderings.{is_eq-nat_cmp, is_eq-then}
use Rattle.xc_lists.proofs.Positions.{find_at, position_from_congr, position_from-map}
use Rattle.xc_names.specs.declared.expanded.NameId.{NameId}
use Rattle.xc_points.specs.declared.types.Point.{Point}

-- by concept, and then by key
abbrev pub place_cmp : Place → Place → Ordering
place_cmp a b = ordering_then (nat_cmp a.concept.0 b.concept.0) (nat_cmp a.key b.key)

is_eq-place : (concept : NameId) (key : ℕ) (point : Point) → is_eq (place_cmp (place_at concept key) (place_of point)) ≡ is_point_of concept key point
is_eq-place concept key point = rw (is_eq-then (nat_cmp concept.0 point.concept.0) (nat_cmp key point.key), is_eq-nat_cmp concept.0 point.concept.0, is_eq-nat_cmp key point.key) refl

-- what is found among the places is the number of the point
pub number_is : (points : List Point) (concept : NameId) (key : ℕ) → first_equal place_cmp (place_at concept key) (map place_of points) ≡ number_of points concept key
number_is points concept key =
    position_from-map place_of (λ other. is_eq (place_cmp (place_at concept key) other)) 0 points
    ∙ position_from_congr (λ point. is_eq (place_cmp (place_at concept key) (place_of point))) (is_point_of concept key) 0 points (is_eq-place concept key)

-- the number of a point is below how many there are
pub number_below : (points : List Point) (concept : NameId) (key number bound : ℕ) → number_of points concept key ≡ Some number → length points < bound → number < bound
number_below points concept key number bound e few =
    let found = find_at (is_point_of concept key) 0 number points e in
    omega (arith, found.place, found.inside, few)
