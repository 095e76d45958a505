-- What is computed are the bindings, in the words of arcs and points.
use Rattle.std.proofs.Common.{◌≡◌, ◌≢◌, ◌+◌, ◌≤◌, ℕ, List, [], ◌∷◌, Option, Some, None, filter_map, flat_map, slice_get, inl, refl, sym, ap, subst, ◌∙◌, arith, zero-add}
use Rattle.std.specs.List.{enumerate_from, cons_option}
use Rattle.std.specs.List.Sorted.{IsStrictlySortedBy}
use Rattle.std.specs.declared.cmp.Ordering.TheVariants.{Less}
use Rattle.xc_bind.proofs.Contributors.{term_beside, terms_beside, is_term, term_is, are_terms}
use Rattle.xc_bind.proofs.InOrder.{all_of, ascend_both, earlier_network, earlier_total}
use Rattle.xc_bind.proofs.Members.{Has, place_of_one, one_at, made_from, is_made, flat_from, is_in_flat, numbered, number_from}
use Rattle.xc_bind.specs.Bindings.{terms_of, with_terms, binding_of, bindings_in, bindings_of}
use Rattle.xc_bind.specs.Judged.{IsJudged, HasBinding, HasItsTerms, AreBindings, by_place}
use Rattle.xc_bind.specs.declared.types.Binding.{Binding}
use Rattle.xc_bind.specs.declared.types.Term.{Term}
use Rattle.xc_calc.specs.declared.arc.Arc.{Arc}
use Rattle.xc_calc.specs.declared.arc.Network.{Network}
use Rattle.xc_points.specs.Kept.{AreDistinct}
use Rattle.xc_points.specs.declared.types.Point.{Point}

-- what a binding is made of
pub record IsMadeOf (network total : ℕ) (terms : List Term) (binding : Binding) : Type 0 where
  pub network_is : binding.network ≡ network
  pub total_is : binding.total ≡ total
  pub terms_are : binding.terms ≡ terms
  pub some : terms ≢ []

made_of : (network total : ℕ) (terms : List Term) (binding : Binding) → with_terms network total terms ≡ Some binding → IsMadeOf network total terms binding
made_of network total [] binding e = absurd (cc)
made_of network total (term ∷ terms) binding e =
    let is : record { network = network; total = total; terms = term ∷ terms } ≡ binding = cc in
    record {
      network_is = sym (ap (λ b. b.network) is);
      total_is = sym (ap (λ b. b.total) is);
      terms_are = sym (ap (λ b. b.terms) is);
      some = λ none. absurd (cc);
    }

-- where there is a term, there is a binding
some_binding : (network total : ℕ) (terms : List Term) (term : Term) → Has term terms → (binding : Binding) × (with_terms network total terms ≡ Some binding) × (binding.network ≡ network) × (binding.total ≡ total)
some_binding network total [] term h = absurd h
some_binding network total (t ∷ ts) term h = (record { network = network; total = total; terms = t ∷ ts }, refl, refl, refl)

-- a term of what is not empty
first_of : (terms : List Term) → terms ≢ [] → (term : Term) × Has term terms
first_of [] h = absurd (h refl)
first_of (term ∷ terms) h = (term, inl refl)

-- where a binding of the list comes from
pub record ComesFrom (networks : List Network) (points : List Point) (binding : Binding) : Type 0 where
  pub network : Network
  pub has_network : slice_get networks binding.network ≡ Some network
  pub total : Point
  pub has_total : slice_get points binding.total ≡ Some total
  pub terms_are : binding.terms ≡ terms_of points network.arcs total
  pub some : binding.terms ≢ []

pub comes_from : (networks : List Network) (points : List Point) (binding : Binding) → Has binding (bindings_of networks points) → ComesFrom networks points binding
comes_from networks points binding h =
    let flat = flat_from (bindings_in points) binding (enumerate_from 0 networks) h in
    let n = flat.0 in
    let network = number_from 0 networks n flat.1 in
    let made = made_from (binding_of points n.0 n.1.arcs) binding (enumerate_from 0 points) flat.2 in
    let t = made.0 in
    let total = number_from 0 points t made.1 in
    let is = made_of n.0 t.0 (terms_of points n.1.arcs t.1) binding made.2 in
    record {
      network = n.1;
      has_network = ap (slice_get networks) (is.network_is ∙ network.1 ∙ zero-add network.0) ∙ network.2;
      total = t.1;
      has_total = ap (slice_get points) (is.total_is ∙ total.1 ∙ zero-add total.0) ∙ total.2;
      terms_are = is.terms_are;
      some = λ none. is.some (sym is.terms_are ∙ none);
    }

-- a total that is judged has a binding
pub is_bound : (networks : List Network) (points : List Point) (n t : ℕ) (network : Network) (total : Point) (term : Term) → slice_get networks n ≡ Some network → slice_get points t ≡ Some total → Has term (terms_of points network.arcs total) → HasBinding (bindings_of networks points) n t
is_bound networks points n t network total term has_network has_total has_term =
    let some = some_binding n t (terms_of points network.arcs total) term has_term in
    let network_there : Has (n, network) (enumerate_from 0 networks) = subst (λ k. Has (k, network) (enumerate_from 0 networks)) (zero-add n) (numbered 0 networks n network has_network) in
    let total_there : Has (t, total) (enumerate_from 0 points) = subst (λ k. Has (k, total) (enumerate_from 0 points)) (zero-add t) (numbered 0 points t total has_total) in
    let in_network = is_made (binding_of points n network.arcs) (t, total) some.0 (enumerate_from 0 points) total_there some.1 in
    let in_all = is_in_flat (bindings_in points) (n, network) some.0 (enumerate_from 0 networks) network_there in_network in
    let place = place_of_one some.0 (bindings_of networks points) in_all in
    record { place = place.0; binding = some.0; there = place.1; network = some.2; total = some.3 }

is_judged : (networks : List Network) (points : List Point) (n t : ℕ) → HasBinding (bindings_of networks points) n t → IsJudged networks points n t
is_judged networks points n t h =
    let from = comes_from networks points h.binding (one_at (bindings_of networks points) h.place h.binding h.there) in
    let first = first_of h.binding.terms from.some in
    let one : Has first.0 (filter_map (term_beside points from.total) from.network.arcs) = subst (Has first.0) (from.terms_are ∙ terms_beside points from.total from.network.arcs) first.1 in
    let made = made_from (term_beside points from.total) first.0 from.network.arcs one in
    let arc = place_of_one made.0 from.network.arcs made.1 in
    record {
      network = from.network;
      has_network = ap (slice_get networks) (sym h.network) ∙ from.has_network;
      total = from.total;
      has_total = ap (slice_get points) (sym h.total) ∙ from.has_total;
      place = arc.0;
      arc = made.0;
      has_arc = arc.1;
      term = first.0;
      is = term_is points from.total made.0 first.0 made.2;
    }

has_binding : (networks : List Network) (points : List Point) → AreDistinct points → (n t : ℕ) → IsJudged networks points n t → HasBinding (bindings_of networks points) n t
has_binding networks points distinct n t h =
    let there = is_made (term_beside points h.total) h.arc h.term h.network.arcs (one_at h.network.arcs h.place h.arc h.has_arc) (is_term points distinct h.total h.arc h.term h.is) in
    is_bound networks points n t h.network h.total h.term h.has_network h.has_total (subst (Has h.term) (sym (terms_beside points h.total h.network.arcs)) there)

has_its_terms : (networks : List Network) (points : List Point) → AreDistinct points → (binding : Binding) → ComesFrom networks points binding → HasItsTerms networks points binding
has_its_terms networks points distinct binding from =
    let terms = are_terms points distinct from.total from.network.arcs in
    record {
      network = from.network;
      has_network = from.has_network;
      total = from.total;
      has_total = from.has_total;
      terms = record { given = terms.given; exactly = terms.exactly; terms_are = from.terms_are ∙ terms.terms_are };
      some = from.some;
    }

-- ---- in order

-- the bindings of a network are of it, and of points that are listed
of_network : (points listed : List Point) (n m : ℕ) (arcs : List Arc) (binding : Binding) → Has binding (filter_map (binding_of points n arcs) (enumerate_from m listed)) → (binding.network ≡ n) × (m ≤ binding.total)
of_network points listed n m arcs binding h =
    let made = made_from (binding_of points n arcs) binding (enumerate_from m listed) h in
    let number = number_from m listed made.0 made.1 in
    let is = made_of n made.0.0 (terms_of points arcs made.0.1) binding made.2 in
    (is.network_is, omega (arith, is.total_is, number.1))

totals_ascend : (points listed : List Point) (n m : ℕ) (arcs : List Arc) → IsStrictlySortedBy by_place (filter_map (binding_of points n arcs) (enumerate_from m listed))
unfolding IsStrictlySortedBy
totals_ascend points [] n m arcs = tt
totals_ascend points (total ∷ listed) n m arcs = by (binding_of points n arcs (m, total)) refl (totals_ascend points listed n (m + 1) arcs)
  where
    by : (o : Option Binding) → binding_of points n arcs (m, total) ≡ o → IsStrictlySortedBy by_place (filter_map (binding_of points n arcs) (enumerate_from (m + 1) listed)) → IsStrictlySortedBy by_place (cons_option o (filter_map (binding_of points n arcs) (enumerate_from (m + 1) listed)))
    by None e rest = rest
    by (Some b) e rest =
        let is = made_of n m (terms_of points arcs total) b e in (
          all_of (λ c. by_place b c ≡ Less) (filter_map (binding_of points n arcs) (enumerate_from (m + 1) listed)) (λ c there.
              let later = of_network points listed n (m + 1) arcs c there in
              earlier_total b c (is.network_is ∙ sym later.0) (omega (arith, is.total_is, later.1))),
          rest,
        )

networks_ascend : (points : List Point) (n : ℕ) (networks : List Network) → IsStrictlySortedBy by_place (flat_map (bindings_in points) (enumerate_from n networks))
unfolding IsStrictlySortedBy
networks_ascend points n [] = tt
networks_ascend points n (network ∷ networks) =
    ascend_both by_place (bindings_in points (n, network)) (flat_map (bindings_in points) (enumerate_from (n + 1) networks))
    (totals_ascend points points n 0 network.arcs)
    (networks_ascend points (n + 1) networks)
    (λ b c one other.
    let here = of_network points points n 0 network.arcs b one in
    let flat = flat_from (bindings_in points) c (enumerate_from (n + 1) networks) other in
    let number = number_from (n + 1) networks flat.0 flat.1 in
    let later = of_network points points flat.0.0 0 flat.0.1.arcs c flat.2 in
    earlier_network b c (omega (arith, here.0, later.0, number.1)))

pub bindings_ascend : (networks : List Network) (points : List Point) → IsStrictlySortedBy by_place (bindings_of networks points)
bindings_ascend networks points = networks_ascend points 0 networks

pub are_bindings : (networks : List Network) (points : List Point) → AreDistinct points → AreBindings networks points (bindings_of networks points)
are_bindings networks points distinct = record {
  ascending = bindings_ascend networks points;
  judged = λ n t. (is_judged networks points n t, has_binding networks points distinct n t);
  terms = λ place binding there. has_its_terms networks points distinct binding (comes_from networks points binding (one_at (bindings_of networks points) place binding there));
}
