-- A concept has a name where it has the number of that name.
use Rattle.std.proofs.Common.{◌≡◌, ◌==◌, ◌||◌, ◌&&◌, ℕ, List, [], ◌∷◌, Bool, true, false, Option, Some, None, All, find, is_some, if◌then◌else◌, true≢false, refl, sym, ap, ◌∙◌}
use Rattle.std.proofs.lemmas.Bool.{and_parts, eqb-true, eq-eqb}
use Rattle.std.proofs.lemmas.Cmp.{nat_list_eq_equiv}
use Rattle.std.proofs.lemmas.List.Elements.{All-head, All-tail}
use Rattle.std.proofs.lemmas.Slice.Eq.{bytes_eq-Decides}
use Rattle.std.specs.List.{list_any}
use Rattle.std.specs.Option.{option_map_or}
use Rattle.std.specs.Str.{bytes_eq}
use Rattle.xc_concepts.specs.Chains.{has_number, concept_numbered}
use Rattle.xc_concepts.specs.Declarations.{concepts_in}
use Rattle.xc_concepts.specs.Held.{IsHeld, AreHeld}
use Rattle.xc_concepts.specs.declared.schema.Concept.{Concept}
use Rattle.xc_concepts.specs.declared.schema.Schema.{Schema}
use Rattle.xc_lists.proofs.Anys.{any_flat, no_one}
use Rattle.xc_names.specs.Laws.{NumbersTellNames}
use Rattle.xc_names.specs.Names.{name_of, is_named, number_of}
use Rattle.xc_names.specs.declared.expanded.Expanded.{Expanded}

-- the concept has this number, where there is one
abbrev has_this : Option ℕ → Concept → Bool
has_this o c = option_map_or (λ n. has_number n c) o false

found_is_any : {A : Type 0} (p : A → Bool) (xs : List A) → list_any p xs ≡ is_some (find p xs)
found_is_any p [] = refl
found_is_any p (x ∷ xs) = by (p x) (found_is_any p xs)
  where
    by : (b : Bool) → list_any p xs ≡ is_some (find p xs) → (b || list_any p xs) ≡ is_some (if b then Some x else find p xs)
    by true e = refl
    by false e = e

module _ (law : NumbersTellNames) (names : List Expanded) (space local : List ℕ) where
  same_held : (c : Concept) → IsHeld names c → is_named space local c.declared.name ≡ has_this (number_of space local names) c
  same_held c held = by (is_named space local c.declared.name) refl
    where
      name : Expanded
      name = c.declared.name

      itself : is_named name.space name.local name ≡ true
      itself = λ i. nat_list_eq_equiv.refl name.space i && nat_list_eq_equiv.refl name.local i

      other : (o : Option ℕ) → number_of space local names ≡ o → is_named space local name ≡ false → false ≡ has_this o c
      other None at e = refl
      other (Some n) at e = decided (c.number.0 == n) refl
        where
          decided : (b : Bool) → (c.number.0 == n) ≡ b → false ≡ b
          decided false f = refl
          decided true f =
              let numbers : number_of space local names ≡ number_of name.space name.local names = at ∙ sym (held ∙ ap Some (eqb-true c.number.0 n f)) in
              let same : name_of space local ≡ name_of name.space name.local = (law names space local name.space name.local (ap (λ o. is_some o) at)).0 numbers in
              absurd (true≢false (sym itself ∙ sym (ap (λ (x : Expanded). is_named x.space x.local name) same) ∙ e))

      by : (b : Bool) → is_named space local name ≡ b → b ≡ has_this (number_of space local names) c
      by true e =
          let parts = and_parts (bytes_eq space name.space) (bytes_eq local name.local) e in
          let number : number_of space local names ≡ Some c.number.0 =
          (λ i. number_of ((bytes_eq-Decides space name.space).0 parts.0 i) ((bytes_eq-Decides local name.local).0 parts.1 i) names) ∙ held in
          sym (ap (λ o. has_this o c) number ∙ eq-eqb c.number.0 c.number.0 refl)
      by false e = other (number_of space local names) refl e

  any_held : (cs : List Concept) → All (IsHeld names) cs → list_any (λ c. is_named space local c.declared.name) cs ≡ list_any (has_this (number_of space local names)) cs
  any_held [] held = refl
  any_held (c ∷ cs) held = λ i. same_held c (All-head (IsHeld names) c cs held) i || any_held cs (All-tail (IsHeld names) c cs held) i

  any_this : (o : Option ℕ) (cs : List Concept) → list_any (has_this o) cs ≡ option_map_or (λ n. is_some (find (has_number n) cs)) o false
  any_this None cs = no_one (has_this None) cs (λ c. refl)
  any_this (Some n) cs = found_is_any (has_number n) cs

  pub declared_by_number : (schemas : List Schema) → AreHeld schemas names
      → list_any (λ s. list_any (λ c. is_named space local c.declared.name) s.concepts) schemas ≡ option_map_or (λ n. is_some (concept_numbered schemas n)) (number_of space local names) false
  declared_by_number schemas held =
      any_flat (λ s. s.concepts) (λ c. is_named space local c.declared.name) schemas
      ∙ any_held (concepts_in schemas) held
      ∙ any_this (number_of space local names) (concepts_in schemas)
