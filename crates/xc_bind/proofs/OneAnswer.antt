-- A report has one list of bindings.
use Rattle.std.proofs.Common.{◌≡◌, List, [], ◌∷◌, Option, Some, None, filter_map, slice_get, true≢false, inl, inr, refl, sym, ap, subst, ◌∙◌}
use Rattle.std.proofs.lemmas.Cmp.{nat_cmp_total, then_total, on_total}
use Rattle.std.specs.Cmp.{IsTotalOrder}
use Rattle.std.specs.List.{AllByRecursion}
use Rattle.std.specs.List.Sorted.{IsStrictlySortedBy}
use Rattle.std.specs.Ordering.{is_lt, ordering_reverse}
use Rattle.std.specs.declared.cmp.Ordering.{Ordering}
use Rattle.std.specs.declared.cmp.Ordering.TheVariants.{Less}
use Rattle.xc_bind.proofs.InOrder.{one_of}
use Rattle.xc_bind.proofs.Members.{Has, place_of_one, one_at}
use Rattle.xc_bind.specs.Judged.{AreTerms, HasItsTerms, AreBindings, by_place}
use Rattle.xc_bind.specs.declared.types.Binding.{Binding}
use Rattle.xc_bind.specs.declared.types.Term.{Term}
use Rattle.xc_calc.specs.declared.arc.Arc.{Arc}
use Rattle.xc_calc.specs.declared.arc.Network.{Network}
use Rattle.xc_points.specs.declared.types.Point.{Point}

-- ---- the terms of a total

given_same : (o p : Option Term) → ((t : Term) → o ≡ Some t → p ≡ Some t) → ((t : Term) → p ≡ Some t → o ≡ Some t) → o ≡ p
given_same (Some t) p there back = sym (there t refl)
given_same None (Some t) there back = back t refl
given_same None None there back = refl

one_terms : (points : List Point) (total : Point) (arcs : List Arc) (s t : List Term) → AreTerms points total arcs s → AreTerms points total arcs t → s ≡ t
one_terms points total arcs s t a b =
    let same : (arc : Arc) → a.given arc ≡ b.given arc = λ arc. given_same (a.given arc) (b.given arc) (λ term e. (b.exactly arc term).1 ((a.exactly arc term).0 e)) (λ term e. (a.exactly arc term).1 ((b.exactly arc term).0 e)) in
    a.terms_are ∙ ap (λ given. filter_map given arcs) (λ i arc. same arc i) ∙ sym b.terms_are

some_same : {X : Type 0} (o : Option X) (x y : X) → o ≡ Some x → o ≡ Some y → x ≡ y
some_same o x y e f = let same : Some x ≡ Some y = sym e ∙ f in cc

same_terms : (networks : List Network) (points : List Point) (a b : Binding) → HasItsTerms networks points a → HasItsTerms networks points b → a.network ≡ b.network → a.total ≡ b.total → a.terms ≡ b.terms
same_terms networks points a b h g network total =
    let one : h.network ≡ g.network = some_same (slice_get networks a.network) h.network g.network h.has_network (ap (slice_get networks) network ∙ g.has_network) in
    let two : h.total ≡ g.total = some_same (slice_get points a.total) h.total g.total h.has_total (ap (slice_get points) total ∙ g.has_total) in
    one_terms points g.total g.network.arcs a.terms b.terms
    (subst (λ t. AreTerms points t g.network.arcs a.terms) two (subst (λ (n : Network). AreTerms points h.total n.arcs a.terms) one h.terms))
    g.terms

same_binding : (networks : List Network) (points : List Point) (a b : Binding) → HasItsTerms networks points a → HasItsTerms networks points b → a.network ≡ b.network → a.total ≡ b.total → a ≡ b
same_binding networks points a b h g network total =
    let terms = same_terms networks points a b h g network total in
    λ i. record { network = network i; total = total i; terms = terms i }

-- ---- lists in order

module _ {X : Type 0} {cmp : X → X → Ordering} (order : IsTotalOrder cmp) where
  not_both : (x y : X) → cmp x y ≡ Less → cmp y x ≡ Less → ⊥
  not_both x y e f = true≢false (ap is_lt (sym e ∙ order.antisymm x y ∙ ap ordering_reverse f))

  -- a later one of the first list is a later one of the second
  later : (x y z : X) (xs ys : List X) → x ≡ y → AllByRecursion (λ z. cmp x z ≡ Less) xs → Has z xs → Has z (y ∷ ys) → Has z ys
  later x y z xs ys same below there (inr h) = h
  later x y z xs ys same below there (inl is) =
      let less : cmp x z ≡ Less = one_of (λ w. cmp x w ≡ Less) xs z below there in
      let itself : cmp x x ≡ Less = ap (cmp x) (same ∙ is) ∙ less in
      absurd (not_both x x itself itself)

  heads : (x y : X) (xs ys : List X) → AllByRecursion (λ z. cmp x z ≡ Less) xs → AllByRecursion (λ z. cmp y z ≡ Less) ys → Has x (y ∷ ys) → Has y (x ∷ xs) → x ≡ y
  heads x y xs ys p q (inl e) back = sym e
  heads x y xs ys p q (inr h) (inl e) = e
  heads x y xs ys p q (inr h) (inr g) = absurd (not_both y x (one_of (λ z. cmp y z ≡ Less) ys x q h) (one_of (λ z. cmp x z ≡ Less) xs y p g))

  -- lists that ascend are the same where their elements are
  pub same_lists : (xs ys : List X) → IsStrictlySortedBy cmp xs → IsStrictlySortedBy cmp ys → ((x : X) → Has x xs → Has x ys) → ((y : X) → Has y ys → Has y xs) → xs ≡ ys
  unfolding IsStrictlySortedBy
  same_lists [] [] p q there back = refl
  same_lists [] (y ∷ ys) p q there back = absurd (back y (inl refl))
  same_lists (x ∷ xs) [] p q there back = absurd (there x (inl refl))
  same_lists (x ∷ xs) (y ∷ ys) p q there back =
      let e = heads x y xs ys p.0 q.0 (there x (inl refl)) (back y (inl refl)) in
      let rest = same_lists xs ys p.1 q.1 (λ z h. later x y z xs ys e p.0 h (there z (inr h))) (λ z h. later y x z ys xs (sym e) q.0 h (back z (inr h))) in
      λ i. e i ∷ rest i

by_place_total : IsTotalOrder by_place
by_place_total = then_total (on_total (λ (b : Binding). b.network) nat_cmp_total) (on_total (λ (b : Binding). b.total) nat_cmp_total)

-- each of one list is in the other
each_there : (networks : List Network) (points : List Point) (one other : List Binding) → AreBindings networks points one → AreBindings networks points other → (a : Binding) → Has a one → Has a other
each_there networks points one other these those a h =
    let place = place_of_one a one h in
    let judged = (these.judged a.network a.total).0 (record { place = place.0; binding = a; there = place.1; network = refl; total = refl }) in
    let found = (those.judged a.network a.total).1 judged in
    let same = same_binding networks points found.binding a (those.terms found.place found.binding found.there) (these.terms place.0 a place.1) found.network found.total in
    subst (λ b. Has b other) same (one_at other found.place found.binding found.there)

pub one_answer : (networks : List Network) (points : List Point) (one other : List Binding) → AreBindings networks points one → AreBindings networks points other → one ≡ other
one_answer networks points one other these those =
    same_lists by_place_total one other these.ascending those.ascending
    (each_there networks points one other these those)
    (each_there networks points other one those these)
