-- The number of the first fact of each one's point.
use Rattle.std.proofs.Common.{◌≡◌, ℕ, ◌<◌, ◌≤◌, ◌==◌, ◌&&◌, Bool, true, not, List, length, map, get_or, Some, slice_get, arith, sym, ap, ◌∙◌, true≢false, inl, inr}
use Rattle.std.proofs.lemmas.List.{get_or-map, length-map}
use Rattle.std.proofs.lemmas.List.Sums.{prefix_len_passes}
use Rattle.std.proofs.lemmas.Option.{slice_get_cases}
use Rattle.std.proofs.lemmas.Simd.{map-map}
use Rattle.std.specs.Cmp.{tied_then}
use Rattle.std.specs.List.{position_or_len}
use Rattle.std.specs.Ordering.{is_eq, nat_cmp}
use Rattle.std.specs.Prelude.{All}
use Rattle.xc_lists.specs.Firsts.{first_places, first_or_len}
use Rattle.xc_lists.proofs.Orderings.{is_eq-nat_cmp}
use Rattle.xc_lists.proofs.Positions.{position_or_len_congr, position_or_len-map}
use Rattle.xc_points.proofs.Together.{same_together, same_refl}
use Rattle.xc_points.specs.Gathered.{is_together}
use Rattle.xc_points.specs.Steps.Members.{fact_place, firsts_of}
use Rattle.xc_points.specs.contracts.types.PlaceOrd.TheImpl as order
use Rattle.xc_report.specs.declared.reports.Fact.{Fact}

-- the derived order of places ties facts of one point alone
same_place : (a b : Fact) → is_eq (order.cmp-value.it (fact_place a) (fact_place b)) ≡ is_together a b
same_place a b =
    sym (tied_then (nat_cmp a.concept.0 b.concept.0) (nat_cmp a.key b.key))
    ∙ ap (λ t. t && is_eq (nat_cmp a.key b.key)) (is_eq-nat_cmp a.concept.0 b.concept.0)
    ∙ ap (λ t. (a.concept.0 == b.concept.0) && t) (is_eq-nat_cmp a.key b.key)

first_is : (facts : List Fact) (a : Fact) → first_or_len order.cmp-value.it (fact_place a) (map fact_place facts) ≡ position_or_len (is_together a) facts
first_is facts a =
    position_or_len-map fact_place (λ other. is_eq (order.cmp-value.it (fact_place a) other)) facts
    ∙ position_or_len_congr (λ b. is_eq (order.cmp-value.it (fact_place a) (fact_place b))) (is_together a) facts (λ b. same_place a b)

-- the first places of the places of facts are the numbers of their points' first facts
pub firsts_are : (facts : List Fact) → first_places order.cmp-value.it (map fact_place facts) ≡ firsts_of facts
firsts_are facts =
    map-map (λ p. first_or_len order.cmp-value.it p (map fact_place facts)) fact_place facts
    ∙ ap (λ g. map g facts) (λ i a. first_is facts a i)

-- the first place at which a test passes is at most any at which it does
pub at_most : {X : Type 0} (p : X → Bool) (xs : List X) (k : ℕ) (d : X) → p (get_or xs k d) ≡ true → (position_or_len p xs ≤ k)
at_most p xs k d e =
    let below : k < position_or_len p xs → ⊥ = λ h. true≢false (sym (prefix_len_passes (λ x. not (p x)) xs k d h) ∙ ap not e) in
    omega (arith, below)

-- fact number f
pub fact_at : (facts : List Fact) (f : ℕ) → f < length facts → (fact : Fact) × (slice_get facts f ≡ Some fact) × (get_or facts f fact ≡ fact)
fact_at facts f h = elim (slice_get_cases facts f).1 [
  | inl here ↦ (here.0, here.2, here.3)
  | inr past ↦ absurd (omega arith)
]

-- the first fact of each one's point is a fact
pub firsts_inside : (facts : List Fact) → All (λ first. first < length (firsts_of facts)) (firsts_of facts)
firsts_inside facts k d h =
    let long : length (firsts_of facts) ≡ length facts = length-map facts _ in
    let within : k < length facts = omega arith in
    let at = fact_at facts k within in
    let fact = at.0 in
    let value : get_or (firsts_of facts) k d ≡ position_or_len (is_together fact) facts =
    get_or-map (λ fact. position_or_len (is_together fact) facts) facts k fact d within ∙ ap (λ fact. position_or_len (is_together fact) facts) at.2 in
    let own : position_or_len (is_together fact) facts ≤ k = at_most (is_together fact) facts k fact (ap (is_together fact) at.2 ∙ same_together fact fact (same_refl fact)) in
    omega arith
