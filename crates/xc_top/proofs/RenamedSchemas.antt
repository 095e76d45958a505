-- Schemas under other numbers.
use Rattle.std.proofs.Common.{◌≡◌, ◌||◌, ℕ, List, [], ◌∷◌, ◌++◌, map, Bool, Option, Some, None, option_map, option_and_then, if◌then◌else◌, All, refl, sym, ap, subst, ◌∙◌}
use Rattle.std.proofs.lemmas.List.{map-append}
use Rattle.std.proofs.lemmas.List.Elements.{All-nil, All-cons, All-head, All-tail}
use Rattle.std.proofs.lemmas.Simd.{map-map}
use Rattle.std.specs.Option.{option_or}
use Rattle.std.specs.Str.{bytes_eq}
use Rattle.xc_chars.specs.Parts.{file_name}
use Rattle.xc_concepts.specs.Declarations.{IsSchemaOf, declared_at, concepts_in, types_in}
use Rattle.xc_concepts.specs.Held.{IsHeld, AreHeld}
use Rattle.xc_lists.specs.Places.{places, first_given, is_repeated}
use Rattle.xc_concepts.specs.Rules.{has_file, is_nameless, repeats_id, is_same_name}
use Rattle.xc_concepts.specs.declared.fault.SchemaFault.{SchemaFault}
use Rattle.xc_concepts.specs.declared.fault.SchemaFault.TheVariants.{SameFile, BadPrefix, SameId, SameConcept}
use Rattle.xc_concepts.specs.declared.schema.Concept.{Concept}
use Rattle.xc_concepts.specs.declared.schema.Declared.{Declared}
use Rattle.xc_concepts.specs.declared.schema.Schema.{Schema}
use Rattle.xc_elements.specs.declared.nodes.Node.{Node}
use Rattle.xc_names.specs.Names.{number_of}
use Rattle.xc_names.specs.declared.expanded.Expanded.{Expanded}
use Rattle.xc_top.proofs.Beside.{by_places}
use Rattle.xc_top.proofs.Renaming.{IsRenaming, renamed_concept, renamed_schema}
use Rattle.xc_top.specs.Answers.{schema_refusal}
use Rattle.xc_top.specs.Steps.Added.{first_broken_beside}
use Rattle.xc_top.specs.Taxonomies.{Part, AreSchemasOf, schema_broken, first_schema_broken}

-- what holds of all elements of two lists holds of all of each
pub all_split : {X : Type 0} (P : X → Type 0) (xs ys : List X) → All P (xs ++ ys) → All P xs × All P ys
all_split P [] ys h = (All-nil P, h)
all_split P (x ∷ xs) ys h =
    let rest : All P xs × All P ys = all_split P xs ys (All-tail P x (xs ++ ys) h) in
    (All-cons P x xs (All-head P x (xs ++ ys) h) rest.0, rest.1)

abbrev pub declared_of : Concept → Declared
declared_of c = c.declared

abbrev pub concept_name : Concept → Expanded
concept_name c = c.declared.name

module _ (f : ℕ → ℕ) where
  pub concepts_renamed : (schemas : List Schema) → concepts_in (map (renamed_schema f) schemas) ≡ map (renamed_concept f) (concepts_in schemas)
  concepts_renamed [] = refl
  concepts_renamed (s ∷ schemas) =
      ap (λ cs. map (renamed_concept f) s.concepts ++ cs) (concepts_renamed schemas)
      ∙ sym (map-append (renamed_concept f) s.concepts (concepts_in schemas))

  pub types_renamed : (schemas : List Schema) → types_in (map (renamed_schema f) schemas) ≡ types_in schemas
  types_renamed [] = refl
  types_renamed (s ∷ schemas) = ap (λ ts. s.types ++ ts) (types_renamed schemas)

  names_renamed : (schemas : List Schema) → map concept_name (concepts_in (map (renamed_schema f) schemas)) ≡ map concept_name (concepts_in schemas)
  names_renamed schemas = ap (map concept_name) (concepts_renamed schemas) ∙ map-map concept_name (renamed_concept f) (concepts_in schemas)

  files_renamed : (schemas : List Schema) (file : List ℕ) → has_file (map (renamed_schema f) schemas) file ≡ has_file schemas file
  files_renamed [] file = refl
  files_renamed (s ∷ schemas) file = ap (λ b. bytes_eq file s.file || b) (files_renamed schemas file)

-- the first rule that a schema breaks, by whether its file was added and by the names that were declared before
abbrev broken_by : Bool → List Expanded → List Node → Option SchemaFault
broken_by added names nodes =
    if added then Some SameFile
    else first_given (λ at.
    if is_nameless nodes at then Some (BadPrefix at)
    else if repeats_id nodes at then Some (SameId at)
    else if is_repeated is_same_name names (λ k. option_map (λ d. d.name) (declared_at nodes k)) at then Some (SameConcept at)
    else None) (places nodes)

module _ (f : ℕ → ℕ) where
  broken_renamed : (earlier : List Schema) (part : Part) → schema_broken (map (renamed_schema f) earlier) part ≡ schema_broken earlier part
  broken_renamed earlier part = λ i. option_and_then (schema_refusal part.word) (broken_by (files_renamed f earlier (file_name part.word) i) (names_renamed f earlier i) part.nodes)

  -- the rules ask for no numbers
  first_renamed : (earlier : List Schema) (parts : List Part) (schemas : List Schema) → first_broken_beside (map (renamed_schema f) earlier) parts (map (renamed_schema f) schemas) ≡ first_broken_beside earlier parts schemas
  first_renamed earlier [] schemas = refl
  first_renamed earlier (part ∷ parts) [] = broken_renamed earlier part
  first_renamed earlier (part ∷ parts) (s ∷ schemas) =
      let more : map (renamed_schema f) earlier ++ renamed_schema f s ∷ [] ≡ map (renamed_schema f) (earlier ++ s ∷ []) = sym (map-append (renamed_schema f) earlier (s ∷ [])) in
      let rest : first_broken_beside (map (renamed_schema f) earlier ++ renamed_schema f s ∷ []) parts (map (renamed_schema f) schemas) ≡ first_broken_beside (earlier ++ s ∷ []) parts schemas =
      ap (λ ss. first_broken_beside ss parts (map (renamed_schema f) schemas)) more ∙ first_renamed (earlier ++ s ∷ []) parts schemas in
      λ i. option_or (broken_renamed earlier part i) (rest i)

-- ---- the same number for all

abbrev nought : ℕ → ℕ
nought number = 0

abbrev unnumbered : Declared → Concept
unnumbered declared = record { number = record { 0 = 0 }; declared = declared }

concepts_bare : (cs : List Concept) → map (renamed_concept nought) cs ≡ map unnumbered (map declared_of cs)
concepts_bare [] = refl
concepts_bare (c ∷ cs) = ap (λ ds. unnumbered c.declared ∷ ds) (concepts_bare cs)

schema_bare : (file : List ℕ) (nodes : List Node) (one other : Schema) → IsSchemaOf file nodes one → IsSchemaOf file nodes other → renamed_schema nought other ≡ renamed_schema nought one
schema_bare file nodes one other h k =
    let from : other.file ≡ one.file = k.from ∙ sym h.from in
    let types : other.types ≡ one.types = k.types ∙ sym h.types in
    let declared : map declared_of other.concepts ≡ map declared_of one.concepts = k.concepts ∙ sym h.concepts in
    let concepts : map (renamed_concept nought) other.concepts ≡ map (renamed_concept nought) one.concepts =
    concepts_bare other.concepts ∙ ap (map unnumbered) declared ∙ sym (concepts_bare one.concepts) in
    λ i. record { file = from i; concepts = concepts i; types = types i }

schemas_bare : (parts : List Part) (one other : List Schema) → AreSchemasOf parts one → AreSchemasOf parts other → map (renamed_schema nought) other ≡ map (renamed_schema nought) one
schemas_bare [] [] [] h k = refl
schemas_bare [] [] (t ∷ ts) h k = absurd k
schemas_bare [] (s ∷ ss) other h k = absurd h
schemas_bare (part ∷ parts) [] other h k = absurd h
schemas_bare (part ∷ parts) (s ∷ ss) [] h k = absurd k
schemas_bare (part ∷ parts) (s ∷ ss) (t ∷ ts) h k = λ i. schema_bare (file_name part.word) part.nodes s t h.0 k.0 i ∷ schemas_bare parts ss ts h.1 k.1 i

-- schemas that declare the same break the same rule, whatever the numbers of their concepts
pub broken_alike : (parts : List Part) (one other : List Schema) → AreSchemasOf parts one → AreSchemasOf parts other → first_schema_broken parts other ≡ first_schema_broken parts one
broken_alike parts one other h k =
    sym (by_places parts other k)
    ∙ sym (first_renamed nought [] parts other)
    ∙ ap (first_broken_beside [] parts) (schemas_bare parts one other h k)
    ∙ first_renamed nought [] parts one
    ∙ by_places parts one h

-- ---- by names

module _ (f : ℕ → ℕ) (names other_names : List Expanded) (by : IsRenaming names other_names f) where
  concept_renamed : (one other : Concept) → other.declared ≡ one.declared → IsHeld names one → IsHeld other_names other → other ≡ renamed_concept f one
  concept_renamed one other e h k =
      let there : number_of one.declared.name.space one.declared.name.local other_names ≡ Some other.number.0 =
      subst (λ d. number_of d.name.space d.name.local other_names ≡ Some other.number.0) e k in
      let number : f one.number.0 ≡ other.number.0 = by.carries one.declared.name.space one.declared.name.local one.number.0 other.number.0 h there in
      λ i. record { number = record { 0 = sym number i }; declared = e i }

  each_renamed : (one other : List Concept) → map declared_of other ≡ map declared_of one → All (IsHeld names) one → All (IsHeld other_names) other → other ≡ map (renamed_concept f) one
  each_renamed [] [] e h k = refl
  each_renamed [] (d ∷ ds) e h k = absurd (cc)
  each_renamed (c ∷ cs) [] e h k = absurd (cc)
  each_renamed (c ∷ cs) (d ∷ ds) e h k =
      let first : d.declared ≡ c.declared = cc in
      let rest : map declared_of ds ≡ map declared_of cs = cc in
      let here : d ≡ renamed_concept f c = concept_renamed c d first (All-head (IsHeld names) c cs h) (All-head (IsHeld other_names) d ds k) in
      let later : ds ≡ map (renamed_concept f) cs = each_renamed cs ds rest (All-tail (IsHeld names) c cs h) (All-tail (IsHeld other_names) d ds k) in
      λ i. here i ∷ later i

  schema_renamed : (file : List ℕ) (nodes : List Node) (one other : Schema) → IsSchemaOf file nodes one → IsSchemaOf file nodes other → All (IsHeld names) one.concepts → All (IsHeld other_names) other.concepts → other ≡ renamed_schema f one
  schema_renamed file nodes one other h k held other_held =
      let from : other.file ≡ one.file = k.from ∙ sym h.from in
      let types : other.types ≡ one.types = k.types ∙ sym h.types in
      let concepts : other.concepts ≡ map (renamed_concept f) one.concepts = each_renamed one.concepts other.concepts (k.concepts ∙ sym h.concepts) held other_held in
      λ i. record { file = from i; concepts = concepts i; types = types i }

  by_parts : (parts : List Part) (one other : List Schema) → AreSchemasOf parts one → AreSchemasOf parts other → AreHeld one names → AreHeld other other_names → other ≡ map (renamed_schema f) one
  by_parts [] [] [] h k held other_held = refl
  by_parts [] [] (t ∷ ts) h k held other_held = absurd k
  by_parts [] (s ∷ ss) other h k held other_held = absurd h
  by_parts (part ∷ parts) [] other h k held other_held = absurd h
  by_parts (part ∷ parts) (s ∷ ss) [] h k held other_held = absurd k
  by_parts (part ∷ parts) (s ∷ ss) (t ∷ ts) h k held other_held =
      let mine : All (IsHeld names) s.concepts × AreHeld ss names = all_split (IsHeld names) s.concepts (concepts_in ss) held in
      let yours : All (IsHeld other_names) t.concepts × AreHeld ts other_names = all_split (IsHeld other_names) t.concepts (concepts_in ts) other_held in
      let here : t ≡ renamed_schema f s = schema_renamed (file_name part.word) part.nodes s t h.0 k.0 mine.0 yours.0 in
      let later : ts ≡ map (renamed_schema f) ss = by_parts parts ss ts h.1 k.1 mine.1 yours.1 in
      λ i. here i ∷ later i

-- two readings of schemas are one with other numbers
pub schemas_renamed : (f : ℕ → ℕ) (names other_names : List Expanded) → IsRenaming names other_names f → (parts : List Part) (one other : List Schema) → AreSchemasOf parts one → AreSchemasOf parts other → AreHeld one names → AreHeld other other_names → other ≡ map (renamed_schema f) one
schemas_renamed f names other_names by parts one other h k held other_held = by_parts f names other_names by parts one other h k held other_held
