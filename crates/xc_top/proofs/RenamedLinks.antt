-- Linkbases over concepts under other numbers.
use Rattle.std.proofs.Common.{◌≡◌, ◌==◌, ◌||◌, ◌⊎◌, ℕ, List, [], ◌∷◌, ◌++◌, map, find, flat_map, filter_map, codes, Bool, true, false, cond, Option, Some, None, IfSome, option_map, option_and_then, if◌then◌else◌, inl, inr, ⊎_elim, refl, sym, ap, subst, ◌∙◌}
use Rattle.std.proofs.lemmas.Bool.{false≢true, eqb-true, eq-eqb, or_cases, or_left, or_right}
use Rattle.std.proofs.lemmas.List.{map-append}
use Rattle.std.proofs.lemmas.List.Folds.{list_any-append}
use Rattle.std.proofs.lemmas.Option.{IfSome_then}
use Rattle.std.specs.List.{list_any, cons_option}
use Rattle.std.specs.Option.{option_or, option_map_or}
use Rattle.std.specs.Str.{bytes_eq}
use Rattle.xc_chars.specs.Parts.{is_hash, around, file_name}
use Rattle.xc_calc.specs.Ends.{name_id, concept_by, concept_of_href, concept_named_at, sources, targets}
use Rattle.xc_calc.specs.Linkbases.{xlink_at, is_chosen}
use Rattle.xc_calc.specs.Linked.{arc_between, concepts_at, arcs_of_element, arcs_at, arcs_in, arc_element_at}
use Rattle.xc_calc.specs.Rules.{kind_fault, locator_fault, attribute_fault, ends_fault}
use Rattle.xc_calc.specs.Wanted.{is_end, is_node}
use Rattle.xc_calc.specs.declared.arc.ArcKind.{ArcKind}
use Rattle.xc_calc.specs.declared.arc.ListedArc.{ListedArc}
use Rattle.xc_calc.specs.declared.fault.LinkFault.{LinkFault}
use Rattle.xc_calc.specs.declared.fault.LinkFault.TheVariants.{Unresolved}
use Rattle.xc_concepts.specs.Chains.{kind_from, has_number, concept_numbered, kind_of}
use Rattle.xc_concepts.specs.Declarations.{concepts_in, types_in}
use Rattle.xc_concepts.specs.Held.{has_id, schema_of, number_by_id}
use Rattle.xc_lists.specs.Places.{places, first_given}
use Rattle.xc_concepts.specs.declared.kind.Kind.{Kind}
use Rattle.xc_concepts.specs.declared.kind.Kind.TheVariants.{Other, Unknown}
use Rattle.xc_concepts.specs.declared.schema.Concept.{Concept}
use Rattle.xc_concepts.specs.declared.schema.NamedType.{NamedType}
use Rattle.xc_concepts.specs.declared.schema.Schema.{Schema}
use Rattle.xc_elements.specs.declared.nodes.Node.{Node}
use Rattle.xc_names.specs.declared.expanded.NameId.{NameId}
use Rattle.xc_lists.proofs.ListsOfImages.{find_changed, filter_map_changed, flat_map_changed}
use Rattle.xc_top.proofs.RenamedSchemas.{concepts_renamed, types_renamed}
use Rattle.xc_report.specs.Renamed.{renamed_id}
use Rattle.xc_top.proofs.Renaming.{IsInjective, same_number, renamed_concept, renamed_schema, renamed_listed}
use Rattle.xc_top.specs.Answers.{link_refusal}
use Rattle.xc_top.specs.Taxonomies.{Part, first_link_broken, arcs_of}

-- ---- concepts by their ids

abbrev number_of_concept : Concept → ℕ
number_of_concept c = c.number.0

-- the number of the concept with an id in a schema
abbrev number_in : List ℕ → Schema → Option ℕ
number_in id s = option_map number_of_concept (find (has_id id) s.concepts)

module _ (f : ℕ → ℕ) where
  number_changed : (o : Option Concept) → option_map number_of_concept (option_map (renamed_concept f) o) ≡ option_map f (option_map number_of_concept o)
  number_changed None = refl
  number_changed (Some c) = refl

  in_schema : (id : List ℕ) (o : Option Schema) → option_and_then (number_in id) (option_map (renamed_schema f) o) ≡ option_map f (option_and_then (number_in id) o)
  in_schema id None = refl
  in_schema id (Some s) = ap (option_map number_of_concept) (find_changed (renamed_concept f) (has_id id) s.concepts) ∙ number_changed (find (has_id id) s.concepts)

  number_renamed : (schemas : List Schema) (file id : List ℕ) → number_by_id (map (renamed_schema f) schemas) file id ≡ option_map f (number_by_id schemas file id)
  number_renamed schemas file id = ap (option_and_then (number_in id)) (find_changed (renamed_schema f) (λ s. bytes_eq file s.file) schemas) ∙ in_schema id (schema_of schemas file)

  id_changed : (o : Option ℕ) → option_map name_id (option_map f o) ≡ option_map (renamed_id f) (option_map name_id o)
  id_changed None = refl
  id_changed (Some number) = refl

  by_parts : (schemas : List Schema) (o : Option (List ℕ × List ℕ)) → option_and_then (concept_by (map (renamed_schema f) schemas)) o ≡ option_map (renamed_id f) (option_and_then (concept_by schemas) o)
  by_parts schemas None = refl
  by_parts schemas (Some parts) = ap (option_map name_id) (number_renamed schemas (file_name parts.0) parts.1) ∙ id_changed (number_by_id schemas (file_name parts.0) parts.1)

  by_href : (schemas : List Schema) (o : Option (List ℕ)) → option_and_then (concept_of_href (map (renamed_schema f) schemas)) o ≡ option_map (renamed_id f) (option_and_then (concept_of_href schemas) o)
  by_href schemas None = refl
  by_href schemas (Some href) = by_parts schemas (around is_hash href)

  -- concepts are found by their ids whatever their numbers
  pub located_renamed : (schemas : List Schema) (nodes : List Node) (at : ℕ) → concept_named_at (map (renamed_schema f) schemas) nodes at ≡ option_map (renamed_id f) (concept_named_at schemas nodes at)
  located_renamed schemas nodes at = by_href schemas (xlink_at nodes at (codes "href"))

-- ---- the rules of linkbases

-- the kind of a concept, if it is one
abbrev kind_by : List NamedType → Option Concept → Kind
kind_by types concept = option_map_or (λ c. option_map_or (kind_from types) c.declared.first_type Other) concept Unknown

module _ (f : ℕ → ℕ) (injective : IsInjective f) where
  has_number_renamed : (number : ℕ) (c : Concept) → has_number (f number) (renamed_concept f c) ≡ has_number number c
  has_number_renamed number c = same_number f injective c.number.0 number

  -- the concept with a number
  pub numbered_renamed : (schemas : List Schema) (number : ℕ) → concept_numbered (map (renamed_schema f) schemas) (f number) ≡ option_map (renamed_concept f) (concept_numbered schemas number)
  numbered_renamed schemas number =
      ap (find (has_number (f number))) (concepts_renamed f schemas)
      ∙ find_changed (renamed_concept f) (has_number (f number)) (concepts_in schemas)
      ∙ (λ i. option_map (renamed_concept f) (find (λ c. has_number_renamed number c i) (concepts_in schemas)))

  kind_changed : (types : List NamedType) (o : Option Concept) → kind_by types (option_map (renamed_concept f) o) ≡ kind_by types o
  kind_changed types None = refl
  kind_changed types (Some c) = refl

  kind_renamed : (schemas : List Schema) (number : ℕ) → kind_of (map (renamed_schema f) schemas) (f number) ≡ kind_of schemas number
  kind_renamed schemas number = (λ i. kind_by (types_renamed f schemas i) (numbered_renamed schemas number i)) ∙ kind_changed (types_in schemas) (concept_numbered schemas number)

  -- the fault of a locator by the concept that it names
  abbrev fault_by : List Schema → ℕ → Option NameId → Option LinkFault
  fault_by schemas at concept = option_map_or (λ c. kind_fault at (kind_of schemas c.0)) concept (Some (Unresolved at))

  fault_changed : (schemas : List Schema) (at : ℕ) (o : Option NameId) → fault_by (map (renamed_schema f) schemas) at (option_map (renamed_id f) o) ≡ fault_by schemas at o
  fault_changed schemas at None = refl
  fault_changed schemas at (Some concept) = ap (kind_fault at) (kind_renamed schemas concept.0)

  locator_renamed : (schemas : List Schema) (nodes : List Node) (at : ℕ) → locator_fault (map (renamed_schema f) schemas) nodes at ≡ locator_fault schemas nodes at
  locator_renamed schemas nodes at = ap (fault_by (map (renamed_schema f) schemas) at) (located_renamed f schemas nodes at) ∙ fault_changed schemas at (concept_named_at schemas nodes at)

-- the first rule that a linkbase breaks, by the faults of its locators
abbrev broken_by : ArcKind → (List Node → ℕ → Option LinkFault) → List Node → Option LinkFault
broken_by kind locator nodes =
    first_given (λ at. if is_chosen kind nodes at then option_or (attribute_fault nodes at) (option_or (ends_fault nodes at) (first_given (locator nodes) (sources nodes at ++ targets nodes at))) else None) (places nodes)

-- a linkbase breaks the same rule, whatever the numbers of concepts
pub link_broken_alike : (f : ℕ → ℕ) → IsInjective f → (kind : ArcKind) (schemas : List Schema) (parts : List Part) → first_link_broken kind (map (renamed_schema f) schemas) parts ≡ first_link_broken kind schemas parts
link_broken_alike f injective kind schemas parts = λ i. first_given (λ part. option_and_then (link_refusal part.word) (broken_by kind (λ nodes at. locator_renamed f injective schemas nodes at i) part.nodes)) parts

-- ---- arcs

-- one arc for each source and each target, as they are drawn
abbrev drawn_between : (NameId → NameId → ListedArc) → List NameId → List NameId → List ListedArc
drawn_between draw from to = flat_map (λ s. map (draw s) to) from

module _ (f : ℕ → ℕ) where
  -- what is drawn between other numbers is the arc with these
  abbrev IsDrawn : (NameId → NameId → ListedArc) → Type 0
  IsDrawn draw = (s t : NameId) → draw (renamed_id f s) (renamed_id f t) ≡ renamed_listed f (draw s t)

  targets_renamed : (draw : NameId → NameId → ListedArc) → IsDrawn draw → (s : NameId) (to : List NameId) → map (draw (renamed_id f s)) (map (renamed_id f) to) ≡ map (renamed_listed f) (map (draw s) to)
  targets_renamed draw drawn s [] = refl
  targets_renamed draw drawn s (t ∷ to) = λ i. drawn s t i ∷ targets_renamed draw drawn s to i

  between_renamed : (draw : NameId → NameId → ListedArc) → IsDrawn draw → (from to : List NameId) → drawn_between draw (map (renamed_id f) from) (map (renamed_id f) to) ≡ map (renamed_listed f) (drawn_between draw from to)
  between_renamed draw drawn [] to = refl
  between_renamed draw drawn (s ∷ from) to =
      (λ i. targets_renamed draw drawn s to i ++ between_renamed draw drawn from to i)
      ∙ sym (map-append (renamed_listed f) (map (draw s) to) (drawn_between draw from to))

  module _ (schemas : List Schema) where
    named_renamed : (nodes : List Node) (locators : List ℕ) → concepts_at (map (renamed_schema f) schemas) nodes locators ≡ map (renamed_id f) (concepts_at schemas nodes locators)
    named_renamed nodes locators = filter_map_changed (renamed_id f) (concept_named_at schemas nodes) (concept_named_at (map (renamed_schema f) schemas) nodes) (located_renamed f schemas nodes) locators

    drawn_renamed : {D : Type 0} (draw : D → NameId → NameId → ListedArc) → ((d : D) → IsDrawn (draw d)) → (nodes : List Node) (at : ℕ) (o : Option D)
        → option_map_or (λ d. drawn_between (draw d) (concepts_at (map (renamed_schema f) schemas) nodes (sources nodes at)) (concepts_at (map (renamed_schema f) schemas) nodes (targets nodes at))) o []
        ≡ map (renamed_listed f) (option_map_or (λ d. drawn_between (draw d) (concepts_at schemas nodes (sources nodes at)) (concepts_at schemas nodes (targets nodes at))) o [])
    drawn_renamed draw drawn nodes at None = refl
    drawn_renamed draw drawn nodes at (Some d) =
        (λ i. drawn_between (draw d) (named_renamed nodes (sources nodes at) i) (named_renamed nodes (targets nodes at) i))
        ∙ between_renamed (draw d) (drawn d) (concepts_at schemas nodes (sources nodes at)) (concepts_at schemas nodes (targets nodes at))

    chosen_renamed : (nodes : List Node) (at : ℕ) (b : Bool) → (if b then arcs_of_element (map (renamed_schema f) schemas) nodes at else []) ≡ map (renamed_listed f) (if b then arcs_of_element schemas nodes at else [])
    chosen_renamed nodes at true = drawn_renamed arc_between (λ d s t. refl) nodes at (arc_element_at nodes at)
    chosen_renamed nodes at false = refl

    part_renamed : (kind : ArcKind) (nodes : List Node) → arcs_in kind (map (renamed_schema f) schemas) nodes ≡ map (renamed_listed f) (arcs_in kind schemas nodes)
    part_renamed kind nodes = flat_map_changed (renamed_listed f) (arcs_at kind schemas nodes) (arcs_at kind (map (renamed_schema f) schemas) nodes) (λ at. chosen_renamed nodes at (is_chosen kind nodes at)) (places nodes)

-- the arcs of linkbases are those with other numbers
pub arcs_renamed : (f : ℕ → ℕ) (kind : ArcKind) (schemas : List Schema) (parts : List Part) → arcs_of kind (map (renamed_schema f) schemas) parts ≡ map (renamed_listed f) (arcs_of kind schemas parts)
arcs_renamed f kind schemas parts = flat_map_changed (renamed_listed f) (λ part. arcs_in kind schemas part.nodes) (λ part. arcs_in kind (map (renamed_schema f) schemas) part.nodes) (λ part. part_renamed f schemas kind part.nodes) parts

-- ---- the ends of arcs

-- the number is that of a concept
abbrev IsConcept : List Schema → ℕ → Type 0
IsConcept schemas number = list_any (has_number number) (concepts_in schemas) ≡ true

in_first : {X : Type 0} (test : X → Bool) (xs ys : List X) → list_any test xs ≡ true → list_any test (xs ++ ys) ≡ true
in_first test xs ys h = list_any-append test xs ys ∙ or_left (list_any test xs) (list_any test ys) h

in_second : {X : Type 0} (test : X → Bool) (xs ys : List X) → list_any test ys ≡ true → list_any test (xs ++ ys) ≡ true
in_second test xs ys h = list_any-append test xs ys ∙ or_right (list_any test xs) (list_any test ys) h

found_here : (test : Concept → Bool) (cs : List Concept) → IfSome (find test cs) (λ c. list_any (has_number c.number.0) cs ≡ true)
found_here test [] = tt
found_here test (c ∷ cs) = by (test c) (found_here test cs)
  where
    by : (b : Bool) → IfSome (find test cs) (λ d. list_any (has_number d.number.0) cs ≡ true) → IfSome (cond b (Some c) (find test cs)) (λ d. list_any (has_number d.number.0) (c ∷ cs) ≡ true)
    by true rest = or_left (has_number c.number.0 c) (list_any (has_number c.number.0) cs) (eq-eqb c.number.0 c.number.0 refl)
    by false rest = IfSome_then (find test cs) rest (λ d h. or_right (has_number d.number.0 c) (list_any (has_number d.number.0) cs) h)

if_mapped : {X Y : Type 0} (g : X → Y) (P : Y → Type 0) (o : Option X) → IfSome o (λ x. P (g x)) → IfSome (option_map g o) P
if_mapped g P None h = tt
if_mapped g P (Some x) h = h

found_number : (file id : List ℕ) (schemas : List Schema) → IfSome (number_by_id schemas file id) (IsConcept schemas)
found_number file id [] = tt
found_number file id (s ∷ schemas) = by (bytes_eq file s.file) (found_number file id schemas)
  where
    by : (b : Bool) → IfSome (number_by_id schemas file id) (IsConcept schemas) → IfSome (option_and_then (number_in id) (cond b (Some s) (schema_of schemas file))) (IsConcept (s ∷ schemas))
    by true rest = if_mapped number_of_concept (IsConcept (s ∷ schemas)) (find (has_id id) s.concepts) (IfSome_then (find (has_id id) s.concepts) (found_here (has_id id) s.concepts) (λ c h. in_first (has_number c.number.0) s.concepts (concepts_in schemas) h))
    by false rest = IfSome_then (number_by_id schemas file id) rest (λ number h. in_second (has_number number) s.concepts (concepts_in schemas) h)

module _ (schemas : List Schema) where
  -- the name is that of a concept
  abbrev IsNamed : NameId → Type 0
  IsNamed id = IsConcept schemas id.0

  concept_by_parts : (o : Option (List ℕ × List ℕ)) → IfSome (option_and_then (concept_by schemas) o) IsNamed
  concept_by_parts None = tt
  concept_by_parts (Some parts) = if_mapped name_id IsNamed (number_by_id schemas (file_name parts.0) parts.1) (found_number (file_name parts.0) parts.1 schemas)

  concept_by_href : (o : Option (List ℕ)) → IfSome (option_and_then (concept_of_href schemas) o) IsNamed
  concept_by_href None = tt
  concept_by_href (Some href) = concept_by_parts (around is_hash href)

  -- what a locator names is a concept
  pub located_concept : (nodes : List Node) (at : ℕ) → IfSome (concept_named_at schemas nodes at) IsNamed
  located_concept nodes at = concept_by_href (xlink_at nodes at (codes "href"))

module _ {X Y : Type 0} (test : Y → Bool) (Q : Type 0) where
  -- what follows from the test of what each gives follows from that of all
  pub any_flat : (g : X → List Y) → ((x : X) → list_any test (g x) ≡ true → Q) → (xs : List X) → list_any test (flat_map g xs) ≡ true → Q
  any_flat g each [] h = absurd (false≢true h)
  any_flat g each (x ∷ xs) h = ⊎_elim (each x) (any_flat g each xs) (or_cases (list_any test (g x)) (list_any test (flat_map g xs)) (sym (list_any-append test (g x) (flat_map g xs)) ∙ h))

  pub any_made : (g : X → Option Y) → ((x : X) → IfSome (g x) (λ y. test y ≡ true → Q)) → (xs : List X) → list_any test (filter_map g xs) ≡ true → Q
  any_made g each [] h = absurd (false≢true h)
  any_made g each (x ∷ xs) h = by (g x) (each x) h (any_made g each xs)
    where
      by : (o : Option Y) → IfSome o (λ y. test y ≡ true → Q) → list_any test (cons_option o (filter_map g xs)) ≡ true → (list_any test (filter_map g xs) ≡ true → Q) → Q
      by None here h later = later h
      by (Some y) here h later = ⊎_elim here later (or_cases (test y) (list_any test (filter_map g xs)) h)

module _ (number : ℕ) where
  abbrev is_it : NameId → Bool
  is_it id = id.0 == number

  abbrev ends_at : ListedArc → Bool
  ends_at a = is_end number a.arc

  -- the ends of what is drawn are its source and its target
  abbrev HasEnds : (NameId → NameId → ListedArc) → Type 0
  HasEnds draw = (s t : NameId) → ends_at (draw s t) ≡ (is_it s || is_it t)

  ends_of_targets : (draw : NameId → NameId → ListedArc) → HasEnds draw → (s : NameId) (to : List NameId) → list_any ends_at (map (draw s) to) ≡ true → (is_it s ≡ true) ⊎ (list_any is_it to ≡ true)
  ends_of_targets draw has s [] h = absurd (false≢true h)
  ends_of_targets draw has s (t ∷ to) h =
      ⊎_elim
      (λ here. ⊎_elim (λ e. inl e) (λ e. inr (or_left (is_it t) (list_any is_it to) e)) (or_cases (is_it s) (is_it t) (sym (has s t) ∙ here)))
      (λ there. ⊎_elim (λ e. inl e) (λ e. inr (or_right (is_it t) (list_any is_it to) e)) (ends_of_targets draw has s to there))
      (or_cases (ends_at (draw s t)) (list_any ends_at (map (draw s) to)) h)

  ends_between : (draw : NameId → NameId → ListedArc) → HasEnds draw → (from to : List NameId) → list_any ends_at (drawn_between draw from to) ≡ true → (list_any is_it from ≡ true) ⊎ (list_any is_it to ≡ true)
  ends_between draw has [] to h = absurd (false≢true h)
  ends_between draw has (s ∷ from) to h =
      ⊎_elim
      (λ here. ⊎_elim (λ e. inl (or_left (is_it s) (list_any is_it from) e)) (λ e. inr e) (ends_of_targets draw has s to here))
      (λ there. ⊎_elim (λ e. inl (or_right (is_it s) (list_any is_it from) e)) (λ e. inr e) (ends_between draw has from to there))
      (or_cases (list_any ends_at (map (draw s) to)) (list_any ends_at (drawn_between draw from to)) (sym (list_any-append ends_at (map (draw s) to) (drawn_between draw from to)) ∙ h))

  module _ (schemas : List Schema) where
    named_concept : (nodes : List Node) (locators : List ℕ) → list_any is_it (concepts_at schemas nodes locators) ≡ true → IsConcept schemas number
    named_concept nodes locators =
        any_made is_it (IsConcept schemas number) (concept_named_at schemas nodes)
        (λ at. IfSome_then (concept_named_at schemas nodes at) (located_concept schemas nodes at) (λ id h e. subst (IsConcept schemas) (eqb-true id.0 number e) h)) locators

    drawn_concept : {D : Type 0} (draw : D → NameId → NameId → ListedArc) → ((d : D) → HasEnds (draw d)) → (nodes : List Node) (at : ℕ) (o : Option D)
        → list_any ends_at (option_map_or (λ d. drawn_between (draw d) (concepts_at schemas nodes (sources nodes at)) (concepts_at schemas nodes (targets nodes at))) o []) ≡ true → IsConcept schemas number
    drawn_concept draw has nodes at None h = absurd (false≢true h)
    drawn_concept draw has nodes at (Some d) h =
        ⊎_elim (named_concept nodes (sources nodes at)) (named_concept nodes (targets nodes at))
        (ends_between (draw d) (has d) (concepts_at schemas nodes (sources nodes at)) (concepts_at schemas nodes (targets nodes at)) h)

    chosen_concept : (nodes : List Node) (at : ℕ) (b : Bool) → list_any ends_at (if b then arcs_of_element schemas nodes at else []) ≡ true → IsConcept schemas number
    chosen_concept nodes at true h = drawn_concept arc_between (λ d s t. refl) nodes at (arc_element_at nodes at) h
    chosen_concept nodes at false h = absurd (false≢true h)

    part_concept : (kind : ArcKind) (nodes : List Node) → list_any ends_at (arcs_in kind schemas nodes) ≡ true → IsConcept schemas number
    part_concept kind nodes = any_flat ends_at (IsConcept schemas number) (arcs_at kind schemas nodes) (λ at. chosen_concept nodes at (is_chosen kind nodes at)) (places nodes)

-- the ends of arcs are concepts
pub ends_are_concepts : (kind : ArcKind) (schemas : List Schema) (parts : List Part) (number : ℕ) → is_node (arcs_of kind schemas parts) number ≡ true → list_any (has_number number) (concepts_in schemas) ≡ true
ends_are_concepts kind schemas parts number h = any_flat (ends_at number) (IsConcept schemas number) (λ part. arcs_in kind schemas part.nodes) (λ part. part_concept number schemas kind part.nodes) parts h
