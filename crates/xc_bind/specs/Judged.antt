-- What bindings are, in the words of arcs and points (Calculations 1.1, the calculation bindings).
use Rattle.std.specs.Prelude.{◌≡◌, ◌≢◌, ◌↔◌, ℕ, List, [], filter_map, Option, Some, slice_get}
use Rattle.std.specs.Cmp.Lexicographic.{slice_cmp}
use Rattle.std.specs.List.Sorted.{IsStrictlySortedBy}
use Rattle.std.specs.Ordering.{nat_cmp, ordering_then}
use Rattle.std.specs.declared.cmp.Ordering.{Ordering}
use Rattle.xc_bind.specs.declared.types.Binding.{Binding}
use Rattle.xc_bind.specs.declared.types.Term.{Term}
use Rattle.xc_calc.specs.Networks.{role_of}
use Rattle.xc_calc.specs.declared.arc.Arc.{Arc}
use Rattle.xc_calc.specs.declared.arc.Network.{Network}
use Rattle.xc_points.specs.declared.types.Point.{Point}

-- the term is the one of this arc beside the total: the arc leads from the total's concept to that of the term's point, which has the total's key; and it has the arc's weight
pub record IsTerm (points : List Point) (total : Point) (arc : Arc) (term : Term) : Type 0 where
  pub point : Point
  pub there : slice_get points term.point ≡ Some point
  pub from : arc.from ≡ total.concept
  pub to : arc.to ≡ point.concept
  pub key : point.key ≡ total.key
  pub weight : term.weight ≡ arc.weight

-- the terms are those of these arcs, in the order of the arcs: an arc has one where its contributor is reported beside the total, and else none
pub record AreTerms (points : List Point) (total : Point) (arcs : List Arc) (terms : List Term) : Type 0 where
  -- an arc's term, if it has one
  pub given : Arc → Option Term
  -- it is exactly the one of this arc beside the total
  pub exactly : (arc : Arc) (term : Term) → (given arc ≡ Some term) ↔ IsTerm points total arc term
  -- and the terms are these of one arc after another
  pub terms_are : terms ≡ filter_map given arcs

-- the point with this number is judged in the network with this number: an arc of the network leads from its concept to one that has a point with the same key
pub record IsJudged (networks : List Network) (points : List Point) (network_number total_number : ℕ) : Type 0 where
  pub network : Network
  pub has_network : slice_get networks network_number ≡ Some network
  pub total : Point
  pub has_total : slice_get points total_number ≡ Some total
  pub place : ℕ
  pub arc : Arc
  pub has_arc : slice_get network.arcs place ≡ Some arc
  pub term : Term
  pub is : IsTerm points total arc term

-- the list has a binding of this network and this total
pub record HasBinding (bindings : List Binding) (network_number total_number : ℕ) : Type 0 where
  pub place : ℕ
  pub binding : Binding
  pub there : slice_get bindings place ≡ Some binding
  pub network : binding.network ≡ network_number
  pub total : binding.total ≡ total_number

-- the binding has exactly the terms of its total in its network, and there is one at least
pub record HasItsTerms (networks : List Network) (points : List Point) (binding : Binding) : Type 0 where
  pub network : Network
  pub has_network : slice_get networks binding.network ≡ Some network
  pub total : Point
  pub has_total : slice_get points binding.total ≡ Some total
  pub terms : AreTerms points total network.arcs binding.terms
  pub some : binding.terms ≢ []

-- by network, and then by total
abbrev pub by_place : Binding → Binding → Ordering
by_place a b = ordering_then (nat_cmp a.network b.network) (nat_cmp a.total b.total)

-- the bindings of a report: each network's total that is judged, once, in order, with exactly its terms
pub record AreBindings (networks : List Network) (points : List Point) (bindings : List Binding) : Type 0 where
  pub ascending : IsStrictlySortedBy by_place bindings
  pub judged : (network_number total_number : ℕ) → HasBinding bindings network_number total_number ↔ IsJudged networks points network_number total_number
  pub terms : (place : ℕ) (binding : Binding) → slice_get bindings place ≡ Some binding → HasItsTerms networks points binding

-- by role as bytes, and then by total
abbrev pub by_role : List Network → Binding → Binding → Ordering
by_role networks a b = ordering_then (slice_cmp nat_cmp (role_of networks a.network) (role_of networks b.network)) (nat_cmp a.total b.total)
