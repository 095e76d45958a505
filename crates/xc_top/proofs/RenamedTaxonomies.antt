-- A taxonomy has one reading but for numbers, or one refusal.
use Rattle.std.proofs.Common.{◌≡◌, ◌||◌, ℕ, List, [], ◌∷◌, Bool, true, false, All, map, Some, inl, inr, true≢false, refl, sym, ap, subst, ◌∙◌, eqb-true}
use Rattle.std.proofs.lemmas.Bool.{and_parts}
use Rattle.std.proofs.lemmas.List.Elements.{All-head, All-tail}
use Rattle.std.proofs.lemmas.Option.{none-some, same_Some}
use Rattle.std.specs.List.{list_any}
use Rattle.xc_calc.specs.Laws.{HasOneAnswer}
use Rattle.xc_calc.specs.Wanted.{is_node, AreNodes}
use Rattle.xc_calc.specs.declared.arc.ArcKind.{ArcKind}
use Rattle.xc_calc.specs.declared.arc.Network.{Network}
use Rattle.xc_concepts.specs.Chains.{has_number}
use Rattle.xc_concepts.specs.Declarations.{concepts_in}
use Rattle.xc_concepts.specs.Held.{IsHeld, AreHeld, is_typed_as, AreTyped}
use Rattle.xc_concepts.specs.declared.schema.Concept.{Concept}
use Rattle.xc_concepts.specs.declared.schema.Schema.{Schema}
use Rattle.xc_names.specs.Laws.{NumbersTellNames, NamesStandAtNumbers}
use Rattle.xc_names.specs.declared.expanded.Expanded.{Expanded}
use Rattle.xc_names.specs.declared.expanded.NameId.{NameId}
use Rattle.xc_names.specs.declared.wanted.Wanted.{Wanted}
use Rattle.xc_top.proofs.KnownAlike.{AreAlike, listed_among, known_alike}
use Rattle.xc_top.proofs.RenamedLinks.{link_broken_alike, arcs_renamed, ends_are_concepts}
use Rattle.xc_top.proofs.RenamedNames.{IsOneName, renaming}
use Rattle.xc_top.proofs.RenamedNetworks.{networks_renamed, nodes_renamed, typed_renamed}
use Rattle.xc_top.proofs.RenamedSchemas.{concepts_renamed, broken_alike, schemas_renamed}
use Rattle.xc_top.proofs.Renaming.{IsRenaming, IsRenamed, renamed_concept, renamed_schema, renamed_listed, renamed_network}
use Rattle.xc_top.specs.Taxonomies.{Part, AreSchemasOf, schemas_in, linkbases_in, first_link_broken, arcs_of, IsTaxonomy, IsTaxonomyOf, IsTaxonomyRefusal}
use Rattle.xc_top.specs.declared.documents.Document.{Document}
use Rattle.xc_top.specs.declared.status.Answer.{Answer}

-- ---- concepts

module _ (f : ℕ → ℕ) (one other : List Expanded) where
  -- the number of a concept is that of its name, which both lists have
  concept_shared : (test : Concept → Bool) (number : ℕ) → ((c : Concept) → test c ≡ true → c.number.0 ≡ number) → (concepts : List Concept)
      → All (IsHeld one) concepts → All (IsHeld other) (map (renamed_concept f) concepts)
      → list_any test concepts ≡ true → (b : ℕ) × IsOneName one other number b
  concept_shared test number tells [] held other_held h = absurd (true≢false (sym h))
  concept_shared test number tells (c ∷ concepts) held other_held h =
      by (test c) refl h (concept_shared test number tells concepts (All-tail (IsHeld one) c concepts held) (All-tail (IsHeld other) (renamed_concept f c) (map (renamed_concept f) concepts) other_held))
    where
      by : (t : Bool) → test c ≡ t → (t || list_any test concepts) ≡ true → (list_any test concepts ≡ true → (b : ℕ) × IsOneName one other number b) → (b : ℕ) × IsOneName one other number b
      by true e h rest = (
        f c.number.0,
        record {
          space = c.declared.name.space;
          local = c.declared.name.local;
          first = All-head (IsHeld one) c concepts held ∙ ap Some (tells c e);
          second = All-head (IsHeld other) (renamed_concept f c) (map (renamed_concept f) concepts) other_held;
        },
      )
      by false e h rest = rest h

  concept_shared_back : (test : Concept → Bool) (number : ℕ) → ((c : Concept) → test c ≡ true → c.number.0 ≡ number) → (concepts : List Concept)
      → All (IsHeld one) concepts → All (IsHeld other) (map (renamed_concept f) concepts)
      → list_any test (map (renamed_concept f) concepts) ≡ true → (a : ℕ) × IsOneName one other a number
  concept_shared_back test number tells [] held other_held h = absurd (true≢false (sym h))
  concept_shared_back test number tells (c ∷ concepts) held other_held h =
      by (test (renamed_concept f c)) refl h (concept_shared_back test number tells concepts (All-tail (IsHeld one) c concepts held) (All-tail (IsHeld other) (renamed_concept f c) (map (renamed_concept f) concepts) other_held))
    where
      by : (t : Bool) → test (renamed_concept f c) ≡ t → (t || list_any test (map (renamed_concept f) concepts)) ≡ true → (list_any test (map (renamed_concept f) concepts) ≡ true → (a : ℕ) × IsOneName one other a number) → (a : ℕ) × IsOneName one other a number
      by true e h rest = (
        c.number.0,
        record {
          space = c.declared.name.space;
          local = c.declared.name.local;
          first = All-head (IsHeld one) c concepts held;
          second = All-head (IsHeld other) (renamed_concept f c) (map (renamed_concept f) concepts) other_held ∙ ap Some (tells (renamed_concept f c) e);
        },
      )
      by false e h rest = rest h

numbered : (number : ℕ) (c : Concept) → has_number number c ≡ true → c.number.0 ≡ number
numbered number c e = eqb-true c.number.0 number e

numbered_typed : (number : ℕ) (c : Concept) → is_typed_as number c ≡ true → c.number.0 ≡ number
numbered_typed number c e = numbered number c (and_parts (has_number number c) c.declared.typed e).0

-- ---- one reading

-- the same schemas, with two numberings of their concepts
module _ (f : ℕ → ℕ) (names other_names : List Expanded) (is : IsRenaming names other_names f) (kind : ArcKind) (parts : List Part) (schemas : List Schema) (held : AreHeld schemas names) (other_held : AreHeld (map (renamed_schema f) schemas) other_names) where
  held_after : All (IsHeld other_names) (map (renamed_concept f) (concepts_in schemas))
  held_after = subst (All (IsHeld other_names)) (concepts_renamed f schemas) other_held

  -- a node of the second reading is a concept of it
  end_after : (number : ℕ) → is_node (map (renamed_listed f) (arcs_of kind schemas parts)) number ≡ true → list_any (has_number number) (map (renamed_concept f) (concepts_in schemas)) ≡ true
  end_after number h =
      ap (list_any (has_number number)) (sym (concepts_renamed f schemas))
      ∙ ends_are_concepts kind (map (renamed_schema f) schemas) parts number (ap (λ xs. is_node xs number) (arcs_renamed f kind schemas parts) ∙ h)

  -- nodes and typed dimensions are known alike
  nodes_alike : (ids others : List NameId) → AreNodes (arcs_of kind schemas parts) (map (λ (id : NameId). id.0) ids) → AreNodes (map (renamed_listed f) (arcs_of kind schemas parts)) (map (λ (id : NameId). id.0) others) → AreAlike f names other_names ids others
  nodes_alike ids others these those = record {
    same = λ number.
        listed_among others (f number)
        ∙ nodes_renamed f is.injective (arcs_of kind schemas parts) (map (λ (id : NameId). id.0) ids) (map (λ (id : NameId). id.0) others) these those number
        ∙ sym (listed_among ids number);
    shared = λ number h. concept_shared f names other_names (has_number number) number (numbered number) (concepts_in schemas) held held_after
        (ends_are_concepts kind schemas parts number (sym (these.nodes number) ∙ sym (listed_among ids number) ∙ h));
    shared_back = λ number h. concept_shared_back f names other_names (has_number number) number (numbered number) (concepts_in schemas) held held_after
        (end_after number (sym (those.nodes number) ∙ sym (listed_among others number) ∙ h));
  }

  typed_alike : (ids others : List NameId) → AreTyped schemas (map (λ (id : NameId). id.0) ids) → AreTyped (map (renamed_schema f) schemas) (map (λ (id : NameId). id.0) others) → AreAlike f names other_names ids others
  typed_alike ids others these those = record {
    same = λ number.
        listed_among others (f number)
        ∙ typed_renamed f is.injective schemas (map (λ (id : NameId). id.0) ids) (map (λ (id : NameId). id.0) others) these those number
        ∙ sym (listed_among ids number);
    shared = λ number h. concept_shared f names other_names (is_typed_as number) number (numbered_typed number) (concepts_in schemas) held held_after
        (sym (these.typed number) ∙ sym (listed_among ids number) ∙ h);
    shared_back = λ number h. concept_shared_back f names other_names (is_typed_as number) number (numbered_typed number) (concepts_in schemas) held held_after
        (ap (list_any (is_typed_as number)) (sym (concepts_renamed f schemas)) ∙ sym (those.typed number) ∙ sym (listed_among others number) ∙ h);
  }

  -- what a taxonomy says is the same but for numbers
  same_said : HasOneAnswer → (networks other_networks : List Network) (wanted other_wanted : Wanted)
      → IsTaxonomy schemas (arcs_of kind schemas parts) networks wanted
      → IsTaxonomy (map (renamed_schema f) schemas) (map (renamed_listed f) (arcs_of kind schemas parts)) other_networks other_wanted
      → IsRenamed names networks wanted other_names other_networks other_wanted
  same_said one_answer networks other_networks wanted other_wanted these those = record {
    by = f;
    injective = is.injective;
    networks_are = one_answer (map (renamed_listed f) (arcs_of kind schemas parts)) other_networks (map (renamed_network f) networks) those.networks_are (networks_renamed f is.injective (arcs_of kind schemas parts) networks these.networks_are);
    known = known_alike f names other_names is wanted other_wanted
        (nodes_alike wanted.nodes other_wanted.nodes these.nodes those.nodes)
        (typed_alike wanted.typed other_wanted.typed these.typed those.typed);
  }

  same_taxonomy : HasOneAnswer → (other_schemas : List Schema) (networks other_networks : List Network) (wanted other_wanted : Wanted)
      → other_schemas ≡ map (renamed_schema f) schemas
      → IsTaxonomy schemas (arcs_of kind schemas parts) networks wanted
      → IsTaxonomy other_schemas (arcs_of kind other_schemas parts) other_networks other_wanted
      → IsRenamed names networks wanted other_names other_networks other_wanted
  same_taxonomy one_answer other_schemas networks other_networks wanted other_wanted e these those =
      same_said one_answer networks other_networks wanted other_wanted these
      (subst (λ xs. IsTaxonomy (map (renamed_schema f) schemas) xs other_networks other_wanted) (arcs_renamed f kind schemas parts)
      (subst (λ ss. IsTaxonomy ss (arcs_of kind ss parts) other_networks other_wanted) e those))

-- a taxonomy has one reading but for numbers
pub one_taxonomy : NumbersTellNames → NamesStandAtNumbers → HasOneAnswer → (kind : ArcKind) (documents : List Document) (names : List Expanded) (networks : List Network) (wanted : Wanted) (other_names : List Expanded) (other_networks : List Network) (other_wanted : Wanted)
    → IsTaxonomyOf kind documents names networks wanted
    → IsTaxonomyOf kind documents other_names other_networks other_wanted
    → IsRenamed names networks wanted other_names other_networks other_wanted
one_taxonomy tell stand one_answer kind documents names networks wanted other_names other_networks other_wanted these those =
    let f = (renaming tell stand names other_names).0 in
    let is : IsRenaming names other_names f = (renaming tell stand names other_names).1 in
    let same = schemas_renamed f names other_names is (schemas_in documents) these.schemas those.schemas these.declared those.declared these.held those.held in
    same_taxonomy f names other_names is kind (linkbases_in documents) these.schemas these.held (subst (λ ss. AreHeld ss other_names) same those.held)
    one_answer those.schemas networks other_networks wanted other_wanted same these.says those.says

-- ---- one refusal

-- the first rule that a linkbase breaks does not depend on the numbers of concepts
same_link_fault : NumbersTellNames → NamesStandAtNumbers → (kind : ArcKind) (documents : List Document) (names other_names : List Expanded) (one other : List Schema)
    → AreSchemasOf (schemas_in documents) one → AreSchemasOf (schemas_in documents) other → AreHeld one names → AreHeld other other_names
    → first_link_broken kind other (linkbases_in documents) ≡ first_link_broken kind one (linkbases_in documents)
same_link_fault tell stand kind documents names other_names one other declared other_declared held other_held =
    let f = (renaming tell stand names other_names).0 in
    let is : IsRenaming names other_names f = (renaming tell stand names other_names).1 in
    ap (λ ss. first_link_broken kind ss (linkbases_in documents)) (schemas_renamed f names other_names is (schemas_in documents) one other declared other_declared held other_held)
    ∙ link_broken_alike f is.injective kind one (linkbases_in documents)

-- documents that make no taxonomy have one refusal
pub one_refusal : NumbersTellNames → NamesStandAtNumbers → (kind : ArcKind) (documents : List Document) (one other : Answer) → IsTaxonomyRefusal kind documents one → IsTaxonomyRefusal kind documents other → one ≡ other
one_refusal tell stand kind documents one other (inl e) (inl g) = same_Some one other (sym e ∙ g)
one_refusal tell stand kind documents one other (inl e) (inr (inl s)) = absurd (none-some one (sym s.read ∙ e))
one_refusal tell stand kind documents one other (inl e) (inr (inr l)) = absurd (none-some one (sym l.read ∙ e))
one_refusal tell stand kind documents one other (inr (inl s)) (inl g) = absurd (none-some other (sym s.read ∙ g))
one_refusal tell stand kind documents one other (inr (inl s)) (inr (inl t)) = same_Some one other (sym s.broken ∙ sym (broken_alike (schemas_in documents) s.schemas t.schemas s.declared t.declared) ∙ t.broken)
one_refusal tell stand kind documents one other (inr (inl s)) (inr (inr l)) = absurd (none-some one (sym l.sound ∙ broken_alike (schemas_in documents) s.schemas l.schemas s.declared l.declared ∙ s.broken))
one_refusal tell stand kind documents one other (inr (inr l)) (inl g) = absurd (none-some other (sym l.read ∙ g))
one_refusal tell stand kind documents one other (inr (inr l)) (inr (inl s)) = absurd (none-some other (sym l.sound ∙ broken_alike (schemas_in documents) s.schemas l.schemas s.declared l.declared ∙ s.broken))
one_refusal tell stand kind documents one other (inr (inr l)) (inr (inr m)) = same_Some one other (sym l.broken ∙ sym (same_link_fault tell stand kind documents l.names m.names l.schemas m.schemas l.declared m.declared l.held m.held) ∙ m.broken)

-- documents that make a taxonomy have no refusal
pub refused_or_read : NumbersTellNames → NamesStandAtNumbers → (kind : ArcKind) (documents : List Document) (answer : Answer) (names : List Expanded) (networks : List Network) (wanted : Wanted)
    → IsTaxonomyRefusal kind documents answer → IsTaxonomyOf kind documents names networks wanted → ⊥
refused_or_read tell stand kind documents answer names networks wanted (inl e) t = none-some answer (sym t.read ∙ e)
refused_or_read tell stand kind documents answer names networks wanted (inr (inl s)) t = none-some answer (sym t.sound ∙ broken_alike (schemas_in documents) s.schemas t.schemas s.declared t.declared ∙ s.broken)
refused_or_read tell stand kind documents answer names networks wanted (inr (inr l)) t = none-some answer (sym t.linked ∙ same_link_fault tell stand kind documents l.names names l.schemas t.schemas l.declared t.declared l.held t.held ∙ l.broken)
