-- Networks and points with other numbers for their concepts have the same bindings.
use Rattle.std.proofs.Common.{◌≡◌, ◌==◌, ◌&&◌, ℕ, List, map, filter, filter_map, flat_map, option_map, ap, ◌∙◌}
use Rattle.std.proofs.lemmas.List.Folds.{flat_map-map}
use Rattle.std.specs.List.{position_from, enumerate_from}
use Rattle.xc_bind.specs.Bindings.{is_point_of, number_of, leads_from, arcs_from, term_with, term_of, terms_of, with_terms, binding_of, bindings_in, bindings_of}
use Rattle.xc_calc.specs.declared.arc.Arc.{Arc}
use Rattle.xc_calc.specs.declared.arc.Network.{Network}
use Rattle.xc_lists.proofs.Positions.{position_from-map}
use Rattle.xc_names.specs.declared.expanded.NameId.{NameId}
use Rattle.xc_points.specs.declared.types.Point.{Point}
use Rattle.xc_lists.proofs.ListsOfImages.{filter-map, filter_map-map, behind_number, enumerate_from-map}
use Rattle.xc_report.specs.Renamed.{renamed_id}
use Rattle.xc_top.proofs.Renaming.{IsInjective, same_number, renamed_arc, renamed_network, renamed_point}

module _ (f : ℕ → ℕ) (injective : IsInjective f) where
  point_of_renamed : (concept : NameId) (key : ℕ) (point : Point) → is_point_of (renamed_id f concept) key (renamed_point f point) ≡ is_point_of concept key point
  point_of_renamed concept key point = ap (λ same. same && (key == point.key)) (same_number f injective concept.0 point.concept.0)

  number_renamed : (points : List Point) (concept : NameId) (key : ℕ) → number_of (map (renamed_point f) points) (renamed_id f concept) key ≡ number_of points concept key
  number_renamed points concept key =
      position_from-map (renamed_point f) (is_point_of (renamed_id f concept) key) 0 points
      ∙ (λ i. position_from (λ point. point_of_renamed concept key point i) 0 points)

  arcs_from_renamed : (arcs : List Arc) (concept : NameId) → arcs_from (map (renamed_arc f) arcs) (renamed_id f concept) ≡ map (renamed_arc f) (arcs_from arcs concept)
  arcs_from_renamed arcs concept =
      filter-map (renamed_arc f) (leads_from (renamed_id f concept)) arcs
      ∙ (λ i. map (renamed_arc f) (filter (λ arc. same_number f injective concept.0 arc.from.0 i) arcs))

  term_renamed : (points : List Point) (key : ℕ) (arc : Arc) → term_of (map (renamed_point f) points) key (renamed_arc f arc) ≡ term_of points key arc
  term_renamed points key arc = ap (λ o. option_map (term_with arc.weight) o) (number_renamed points arc.to key)

  terms_renamed : (points : List Point) (arcs : List Arc) (total : Point) → terms_of (map (renamed_point f) points) (map (renamed_arc f) arcs) (renamed_point f total) ≡ terms_of points arcs total
  terms_renamed points arcs total =
      ap (λ xs. filter_map (term_of (map (renamed_point f) points) total.key) xs) (arcs_from_renamed arcs total.concept)
      ∙ filter_map-map (renamed_arc f) (term_of (map (renamed_point f) points) total.key) (arcs_from arcs total.concept)
      ∙ (λ i. filter_map (λ arc. term_renamed points total.key arc i) (arcs_from arcs total.concept))

  binding_renamed : (points : List Point) (network : ℕ) (arcs : List Arc) (total : ℕ × Point)
      → binding_of (map (renamed_point f) points) network (map (renamed_arc f) arcs) (behind_number (renamed_point f) total) ≡ binding_of points network arcs total
  binding_renamed points network arcs total = ap (λ terms. with_terms network total.0 terms) (terms_renamed points arcs total.1)

  bindings_in_renamed : (points : List Point) (network : ℕ × Network) → bindings_in (map (renamed_point f) points) (behind_number (renamed_network f) network) ≡ bindings_in points network
  bindings_in_renamed points network =
      ap (λ totals. filter_map (binding_of (map (renamed_point f) points) network.0 (map (renamed_arc f) network.1.arcs)) totals) (enumerate_from-map (renamed_point f) 0 points)
      ∙ filter_map-map (behind_number (renamed_point f)) (binding_of (map (renamed_point f) points) network.0 (map (renamed_arc f) network.1.arcs)) (enumerate_from 0 points)
      ∙ (λ i. filter_map (λ total. binding_renamed points network.0 network.1.arcs total i) (enumerate_from 0 points))

-- bindings do not depend on the numbers of concepts
pub bindings_renamed : (f : ℕ → ℕ) → IsInjective f → (networks : List Network) (points : List Point) → bindings_of (map (renamed_network f) networks) (map (renamed_point f) points) ≡ bindings_of networks points
bindings_renamed f injective networks points =
    ap (λ numbered. flat_map (bindings_in (map (renamed_point f) points)) numbered) (enumerate_from-map (renamed_network f) 0 networks)
    ∙ flat_map-map (bindings_in (map (renamed_point f) points)) (behind_number (renamed_network f)) (enumerate_from 0 networks)
    ∙ (λ i. flat_map (λ network. bindings_in_renamed f injective points network i) (enumerate_from 0 networks))
