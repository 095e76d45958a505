-- The calculation bindings of a report: which totals are judged, and against what (Calculations 1.1, the calculation bindings).
use Rattle.std.specs.Prelude.{ℕ, ◌==◌, ◌&&◌, Bool, List, [], ◌∷◌, filter, filter_map, flat_map, Option, Some, None, option_map}
use Rattle.std.specs.List.{position_from, enumerate_from}
use Rattle.xc_bind.specs.declared.types.Binding.{Binding}
use Rattle.xc_bind.specs.declared.types.Term.{Term}
use Rattle.xc_calc.specs.declared.arc.Arc.{Arc}
use Rattle.xc_calc.specs.declared.arc.Network.{Network}
use Rattle.xc_decimal.specs.Shortest.{Shortest}
use Rattle.xc_names.specs.declared.expanded.NameId.{NameId}
use Rattle.xc_points.specs.declared.types.Point.{Point}

-- the point is that of this concept with this key
abbrev pub is_point_of : NameId → ℕ → Point → Bool
is_point_of concept key point = (concept.0 == point.concept.0) && (key == point.key)

-- the number of the point of a concept with a key, where it is reported; no two points have one concept and one key
abbrev pub number_of : List Point → NameId → ℕ → Option ℕ
number_of points concept key = position_from (is_point_of concept key) 0 points

-- the arc leads from this concept: the concept is a total of it
abbrev pub leads_from : NameId → Arc → Bool
leads_from concept arc = concept.0 == arc.from.0

-- the arcs that lead from a concept, in reading order
abbrev pub arcs_from : List Arc → NameId → List Arc
arcs_from arcs concept = filter (leads_from concept) arcs

-- the contributor at this point, with this weight
abbrev pub term_with : Shortest → ℕ → Term
term_with weight point = record { point = point; weight = weight }

-- the term of an arc: the point of its contributor with this key, and its weight; none where the contributor is not reported with this key
abbrev pub term_of : List Point → ℕ → Arc → Option Term
term_of points key arc = option_map (term_with arc.weight) (number_of points arc.to key)

-- the terms of a total: those of all arcs that lead from its concept, in reading order, with the total's key; contributors that are not reported are left out
abbrev pub terms_of : List Point → List Arc → Point → List Term
terms_of points arcs total = filter_map (term_of points total.key) (arcs_from arcs total.concept)

-- a binding, where there is a term
abbrev pub with_terms : ℕ → ℕ → List Term → Option Binding
with_terms network total [] = None
with_terms network total (term ∷ terms) = Some (record { network = network; total = total; terms = term ∷ terms })

-- the binding in a network of the point with this number
abbrev pub binding_of : List Point → ℕ → List Arc → ℕ × Point → Option Binding
binding_of points network arcs total = with_terms network total.0 (terms_of points arcs total.1)

-- the bindings of a network with this number, by the numbers of their totals
abbrev pub bindings_in : List Point → ℕ × Network → List Binding
bindings_in points network = filter_map (binding_of points network.0 network.1.arcs) (enumerate_from 0 points)

-- the bindings of these networks, by network and then by total
abbrev pub bindings_of : List Network → List Point → List Binding
bindings_of networks points = flat_map (bindings_in points) (enumerate_from 0 networks)
