-- An arc is effective where it is the first one of its group's priority, and the group is not barred.
use Rattle.std.proofs.Common.{◌≡◌, ◌<◌, ◌==◌, ◌&&◌, ◌||◌, ℕ, zero, suc, List, [], ◌∷◌, Bool, true, false, not, Option, Some, None, take, true≢false, refl, sym, ap, subst, ◌∙◌, inl, inr, arith}
use Rattle.std.proofs.lemmas.Bool.{and_from, and_parts, cases_order, eqb-false, eqb-true, or_right}
use Rattle.std.proofs.lemmas.Cmp.{by_ranked}
use Rattle.std.proofs.lemmas.Int.{ints}
use Rattle.std.specs.Cmp.{int_ranks, signed_Decides}
use Rattle.std.specs.List.{list_any, slice_get}
use Rattle.std.specs.Option.{option_map_or}
use Rattle.std.specs.Ordering.{int_cmp, int_eq}
use Rattle.std.specs.Prelude.{◌<ℤ◌, int_lt}
use Rattle.xc_calc.proofs.Grouping.{common_is, has_own_common}
use Rattle.xc_calc.specs.Effective.{is_equivalent, is_prohibited, is_higher, is_rival, is_barred_by, is_effective}
use Rattle.xc_calc.specs.Steps.Common.{has_common, IsCommonOf}
use Rattle.xc_calc.specs.Steps.Groups.{is_above, is_level, is_bar, IsGroup}
use Rattle.xc_calc.specs.declared.arc.ListedArc.{ListedArc}
use Rattle.xc_calc.specs.declared.common.Common.{Common}
use Rattle.xc_calc.specs.declared.groups.Group.{Group}

-- ---- what stands at a place

module _ {X : Type 0} (p : X → Bool) where
  -- is found in the list
  found : (xs : List X) (i : ℕ) → option_map_or p (slice_get xs i) false ≡ true → list_any p xs ≡ true
  found [] i h = absurd (true≢false (sym h))
  found (x ∷ xs) zero h = ap (λ b. b || list_any p xs) h
  found (x ∷ xs) (suc i) h = or_right (p x) (list_any p xs) (found xs i h)

  -- is found before each later place
  found_before : (xs : List X) (i n : ℕ) → i < n → option_map_or p (slice_get xs i) false ≡ true → list_any p (take n xs) ≡ true
  found_before [] i n less h = absurd (true≢false (sym h))
  found_before (x ∷ xs) i zero less h = absurd (omega (arith, less))
  found_before (x ∷ xs) zero (suc n) less h = ap (λ b. b || list_any p (take n xs)) h
  found_before (x ∷ xs) (suc i) (suc n) less h = or_right (p x) (list_any p (take n xs)) (found_before xs i n (omega (arith, less)) h)

  -- passes each test that holds where this one does
  there_within : (q : X → Bool) → ((x : X) → p x ≡ true → q x ≡ true) → (o : Option X) → option_map_or p o false ≡ true → option_map_or q o false ≡ true
  there_within q within None h = h
  there_within q within (Some x) h = within x h

-- ---- the four conditions

-- an arc that is prohibited bars its own priority
only_barred : (used barred : Bool) → (used ≡ true → barred ≡ true) → not barred ≡ (not used && not false && not barred && not false)
only_barred true true h = refl
only_barred true false h = absurd (true≢false (sym (h refl)))
only_barred false true h = refl
only_barred false false h = refl

not_second : (a b c : Bool) → (a && false && b && c) ≡ false
not_second true b c = refl
not_second false b c = refl

not_last : (a : Bool) → (a && false) ≡ false
not_last true = refl
not_last false = refl

-- ---- the group of an arc

module _ (arcs : List ListedArc) (at : ℕ) (a : ListedArc) (own : slice_get arcs at ≡ Some a) (itself : is_equivalent a a ≡ true) (g : Group) (is : IsGroup (is_equivalent a) arcs g) where
  at_own : (p : ListedArc → Bool) → option_map_or p (slice_get arcs at) false ≡ p a
  at_own p = ap (λ o. option_map_or p o false) own

  -- the first one of the group's priority is effective where the group is not barred
  at_first : g.first ≡ at → not g.barred ≡ is_effective arcs at a
  at_first e =
      let level = is_level (is_equivalent a) g.priority in
      let here : level a ≡ true = sym (at_own level) ∙ ap (λ k. option_map_or level (slice_get arcs k) false) (sym e) ∙ is.there in
      let same : a.priority ≡ g.priority = sym ((signed_Decides g.priority a.priority).0 (and_parts (is_equivalent a a) (int_eq g.priority a.priority) here).1) in
      let higher : list_any (is_higher a) arcs ≡ false = ap (λ p. list_any (is_above (is_equivalent a) p) arcs) same ∙ is.highest in
      let barred : list_any (is_barred_by a) arcs ≡ g.barred = ap (λ p. list_any (is_bar (is_equivalent a) p) arcs) same ∙ is.barred in
      let rival : list_any (is_rival a) (take at arcs) ≡ false = ap (λ p. list_any (is_level (is_equivalent a) p) (take at arcs)) same ∙ ap (λ k. list_any level (take k arcs)) (sym e) ∙ is.none_before in
      let tied : is_rival a a ≡ true = and_from (is_equivalent a a) (int_eq a.priority a.priority) itself ((signed_Decides a.priority a.priority).1 refl) in
      let used = is_prohibited a.usage in
      only_barred used g.barred (λ h. sym barred ∙ found (is_barred_by a) arcs at (at_own (is_barred_by a) ∙ and_from (is_rival a a) used tied h))
      ∙ sym (
      ap (λ x. not used && not x && not (list_any (is_barred_by a) arcs) && not (list_any (is_rival a) (take at arcs))) higher
      ∙ ap (λ x. not used && not false && not x && not (list_any (is_rival a) (take at arcs))) barred
      ∙ ap (λ x. not used && not false && not g.barred && not x) rival)

  under_higher : list_any (is_higher a) arcs ≡ true → is_effective arcs at a ≡ false
  under_higher h =
      let barred = not (list_any (is_barred_by a) arcs) in
      let rival = not (list_any (is_rival a) (take at arcs)) in
      ap (λ x. not (is_prohibited a.usage) && not x && barred && rival) h ∙ not_second (not (is_prohibited a.usage)) barred rival

  behind_rival : list_any (is_rival a) (take at arcs) ≡ true → is_effective arcs at a ≡ false
  behind_rival h =
      let others = not (is_prohibited a.usage) && not (list_any (is_higher a) arcs) && not (list_any (is_barred_by a) arcs) in
      ap (λ x. others && not x) h ∙ not_last others

  -- no arc is above its group
  not_above : g.priority <ℤ a.priority → ⊥
  not_above less =
      let above = is_above (is_equivalent a) g.priority in
      let less : int_lt g.priority a.priority ≡ true = grind (arith, ints) in
      true≢false (sym (found above arcs at (at_own above ∙ and_from (is_equivalent a a) (int_lt g.priority a.priority) itself less)) ∙ is.highest)

  below : a.priority <ℤ g.priority → is_effective arcs at a ≡ false
  below less =
      let level = is_level (is_equivalent a) g.priority in
      let less : int_lt a.priority g.priority ≡ true = grind (arith, ints) in
      under_higher (found (is_higher a) arcs g.first (there_within level (is_higher a)
      (λ b h. let parts = and_parts (is_equivalent a b) (int_eq g.priority b.priority) h in
      and_from (is_equivalent a b) (int_lt a.priority b.priority) parts.0 (ap (int_lt a.priority) (sym ((signed_Decides g.priority b.priority).0 parts.1)) ∙ less))
      (slice_get arcs g.first) is.there))

  level_elsewhere : g.priority ≡ a.priority → (g.first ≡ at → ⊥) → is_effective arcs at a ≡ false
  level_elsewhere same other = elim (cases_order g.first at) [
    | inl e ↦ absurd (other e)
    | inr (inl before) ↦
        behind_rival (found_before (is_rival a) arcs g.first at before (ap (λ p. option_map_or (is_level (is_equivalent a) p) (slice_get arcs g.first) false) (sym same) ∙ is.there))
    | inr (inr behind) ↦
        let level = is_level (is_equivalent a) g.priority in
        absurd (true≢false (sym (found_before level arcs at g.first behind (at_own level ∙ and_from (is_equivalent a a) (int_eq g.priority a.priority) itself ((signed_Decides g.priority a.priority).1 same))) ∙ is.none_before))
  ]

  -- no other arc is effective
  elsewhere : (g.first ≡ at → ⊥) → is_effective arcs at a ≡ false
  elsewhere other =
      by_ranked (g.priority <ℤ a.priority) (g.priority ≡ a.priority) (a.priority <ℤ g.priority) (int_cmp g.priority a.priority) (int_ranks g.priority a.priority)
      (λ e less. absurd (not_above less)) (λ e same. level_elsewhere same other) (λ e more. below more)

  first_alone : ((g.first == at) && not g.barred) ≡ is_effective arcs at a
  first_alone = by (g.first == at) refl (at_first) (elsewhere)
    where
      by : (b : Bool) → (g.first == at) ≡ b → (g.first ≡ at → not g.barred ≡ is_effective arcs at a) → ((g.first ≡ at → ⊥) → is_effective arcs at a ≡ false) → (b && not g.barred) ≡ is_effective arcs at a
      by true e first other = first (eqb-true g.first at e)
      by false e first other = sym (other (eqb-false g.first at e))

module _ (arcs : List ListedArc) (at : ℕ) (a : ListedArc) (key : Common) (is : IsCommonOf key a) (own : slice_get arcs at ≡ Some a) where
  -- the group of an arc's key settles whether it is effective
  pub effective_by_group : (g : Group) → IsGroup (has_common key) arcs g → ((g.first == at) && not g.barred) ≡ is_effective arcs at a
  effective_by_group g group =
      first_alone arcs at a own (sym (common_is key a is a) ∙ has_own_common key a is) g (subst (λ test. IsGroup test arcs g) (λ i b. common_is key a is b i) group)

  -- an arc of the list has a group
  pub has_group : list_any (has_common key) arcs ≡ false → ⊥
  has_group none = true≢false (sym (found (has_common key) arcs at (ap (λ o. option_map_or (has_common key) o false) own ∙ has_own_common key a is)) ∙ none)
