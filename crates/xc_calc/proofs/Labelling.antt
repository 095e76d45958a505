-- Locators that are put into lists by link and label.
use Rattle.std.proofs.Common.{◌≡◌, ◌==◌, ◌&&◌, ◌+◌, ◌++◌, ℕ, List, [], ◌∷◌, Bool, true, false, Option, Some, None, codes, filter, is_some, refl, sym, ap, ◌∙◌, append-nil, arith, if◌then◌else◌}
use Rattle.std.proofs.lemmas.Bool.Decides.{nat_tests}
use Rattle.std.proofs.lemmas.Cmp.{nat_list_eq_equiv}
use Rattle.std.proofs.lemmas.Map.Text.{is_eq-slice_cmp}
use Rattle.std.specs.Cmp.Lexicographic.{slice_cmp}
use Rattle.std.specs.Option.{option_map_or}
use Rattle.std.specs.Ordering.{nat_cmp, is_eq}
use Rattle.std.specs.Str.{bytes_eq}
use Rattle.xc_calc.proofs.Filtered.{filtered_by}
use Rattle.xc_lists.proofs.Orderings.{is_eq-then}
use Rattle.xc_calc.specs.Steps.Labels.{by_label, both, labelled_view, labelled_at}
use Rattle.xc_calc.specs.Linkbases.{is_link_element, is_locator, is_text, xlink_at}
use Rattle.xc_calc.specs.declared.locators.Labelled.{Labelled}
use Rattle.xc_elements.specs.Trees.{parent_of}
use Rattle.xc_elements.specs.declared.nodes.Node.{Node}
use Rattle.xc_lists.specs.Places.{before, is_place}

-- the key is that of the link and the label
abbrev is_of : ℕ → List ℕ → ℕ × List ℕ → Bool
is_of link label key = (key.0 == link) && bytes_eq key.1 label

and_last : (a b : Bool) → (a && b && true) ≡ (a && b)
and_last true true = refl
and_last true false = refl
and_last false b = refl

and_none : (a b : Bool) → (a && false && b) ≡ false
and_none true b = refl
and_none false b = refl

and_false : (a b : Bool) → (a && b && false) ≡ false
and_false true true = refl
and_false true false = refl
and_false false b = refl

module _ (nodes : List Node) (link : ℕ) (label : List ℕ) (at : ℕ) where
  tested : (e h : Bool) (p : Option ℕ) (l : Option (List ℕ)) → (e && is_place link p && is_text label l && h) ≡ option_map_or (is_of link label) (if e && h then both p l else None) false
  tested false h p l = refl
  tested true false p l = and_false (is_place link p) (is_text label l)
  tested true true None l = refl
  tested true true (Some x) None = and_none (x == link) true
  tested true true (Some x) (Some y) = and_last (x == link) (bytes_eq y label)

  -- a node is a locator of a link with a label exactly where these are its own
  located_by : is_locator nodes link label at ≡ option_map_or (is_of link label) (labelled_at nodes at) false
  located_by = tested (is_link_element nodes (codes "loc") at) (is_some (xlink_at nodes at (codes "href"))) (parent_of nodes at) (xlink_at nodes at (codes "label"))

same_label : (q key : Labelled) → is_of q.link q.label.now (labelled_view key) ≡ is_eq (by_label q key)
same_label q key =
    ap (λ b. b && bytes_eq key.label.now q.label.now) (turned_nat key.link q.link)
    ∙ ap (λ b. is_eq (nat_cmp q.link key.link) && b) (nat_list_eq_equiv.symm key.label.now q.label.now ∙ sym (is_eq-slice_cmp q.label.now key.label.now))
    ∙ sym (is_eq-then (nat_cmp q.link key.link) (slice_cmp nat_cmp q.label.now key.label.now))
  where
    turned_nat : (m n : ℕ) → (m == n) ≡ is_eq (nat_cmp n m)
    turned_nat m n = grind (arith, nat_tests)

module _ (nodes : List Node) (at : ℕ) (q : Labelled) where
  -- a locator stands behind those that have its link and its label
  pub put_locator : (key : Labelled) (old new : List ℕ) → Some (labelled_view key) ≡ labelled_at nodes at
      → old ≡ filter (is_locator nodes q.link q.label.now) (before at)
      → new ≡ old ++ (if is_eq (by_label q key) then at ∷ [] else [])
      → new ≡ filter (is_locator nodes q.link q.label.now) (before (at + 1))
  put_locator key old new is so_far put =
      let own = located_by nodes q.link q.label.now at ∙ ap (λ k. option_map_or (is_of q.link q.label.now) k false) (sym is) ∙ same_label q key in
      put ∙ ap (λ xs. xs ++ (if is_eq (by_label q key) then at ∷ [] else [])) so_far ∙ sym (filtered_by (is_locator nodes q.link q.label.now) at (is_eq (by_label q key)) own)

  -- what is no locator stands nowhere
  pub put_none : (old : List ℕ) → None ≡ labelled_at nodes at
      → old ≡ filter (is_locator nodes q.link q.label.now) (before at)
      → old ≡ filter (is_locator nodes q.link q.label.now) (before (at + 1))
  put_none old none so_far =
      let own = located_by nodes q.link q.label.now at ∙ ap (λ k. option_map_or (is_of q.link q.label.now) k false) (sym none) in
      so_far ∙ sym (filtered_by (is_locator nodes q.link q.label.now) at false own ∙ append-nil _)
