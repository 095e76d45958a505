-- What the words of `sum` name has one numbering but for the numbers themselves.
use Rattle.std.proofs.Common.{◌≡◌, ◌==◌, ◌||◌, ℕ, List, [], ◌∷◌, Bool, true, false, map, Option, Some, None, option_and_then, true≢false, refl, sym, ap, subst, ◌∙◌, eqb-true}
use Rattle.std.proofs.lemmas.Option.{none-some}
use Rattle.std.specs.FinMap.{get}
use Rattle.std.specs.List.{zip}
use Rattle.xc_names.specs.Laws.{NumbersTellNames, NamesStandAtNumbers}
use Rattle.xc_names.specs.Names.{number_of}
use Rattle.xc_chars.specs.PlainNames.{split}
use Rattle.xc_names.specs.Prefixes.{Bindings}
use Rattle.xc_names.specs.declared.expanded.Expanded.{Expanded}
use Rattle.xc_names.specs.declared.expanded.NameId.{NameId}
use Rattle.xc_names.specs.declared.wanted.Wanted.{Wanted}
use Rattle.xc_top.proofs.KnownAlike.{AreAlike, listed_among, known_alike}
use Rattle.xc_lists.proofs.ListsOfImages.{any_changed}
use Rattle.xc_top.proofs.RenamedNames.{IsOneName, renaming}
use Rattle.xc_report.specs.Renamed.{renamed_id}
use Rattle.xc_top.proofs.Renaming.{IsRenaming, same_number, IsRenamed, renamed_arc, renamed_network}
use Rattle.xc_top.specs.Sums.{number_in, arc_to, sum_network, is_number_of, AreNodesOf, AreSumNumbers}
use Rattle.xc_top.specs.Words.{SumWords, name_of}

-- ---- names with declared prefixes

module _ (prefixes : Bindings) (one other : List Expanded) where
  in_space : (local : List ℕ) (space : Option (List ℕ)) (a b : ℕ) → option_and_then (λ s. number_of s local one) space ≡ Some a → option_and_then (λ s. number_of s local other) space ≡ Some b → IsOneName one other a b
  in_space local None a b e g = absurd (none-some a e)
  in_space local (Some space) a b e g = record { space = space; local = local; first = e; second = g }

  in_parts : (parts : Option (List ℕ × List ℕ)) (a b : ℕ)
      → option_and_then (λ p. option_and_then (λ s. number_of s p.1 one) (get prefixes p.0)) parts ≡ Some a
      → option_and_then (λ p. option_and_then (λ s. number_of s p.1 other) (get prefixes p.0)) parts ≡ Some b
      → IsOneName one other a b
  in_parts None a b e g = absurd (none-some a e)
  in_parts (Some p) a b e g = in_space p.1 (get prefixes p.0) a b e g

  -- a text has the numbers of one name
  text_named : (name : List ℕ) (a b : ℕ) → number_in prefixes one name ≡ Some a → number_in prefixes other name ≡ Some b → IsOneName one other a b
  text_named name a b e g = in_parts (split name) a b e g

  -- two numbers of one name each
  abbrev AreNamed : List NameId → List NameId → Type 0
  AreNamed [] [] = Unit {0}
  AreNamed [] (also ∷ others) = ⊥
  AreNamed (id ∷ ids) [] = ⊥
  AreNamed (id ∷ ids) (also ∷ others) = IsOneName one other id.0 also.0 × AreNamed ids others

  texts_named : (terms : List (List ℕ)) (ids others : List NameId)
      → map (λ term. number_in prefixes one (name_of term)) terms ≡ map (λ (id : NameId). Some id.0) ids
      → map (λ term. number_in prefixes other (name_of term)) terms ≡ map (λ (id : NameId). Some id.0) others
      → AreNamed ids others
  texts_named [] [] [] e g = tt
  texts_named [] [] (also ∷ others) e g = absurd (cc)
  texts_named [] (id ∷ ids) others e g = absurd (cc)
  texts_named (term ∷ terms) [] others e g = absurd (cc)
  texts_named (term ∷ terms) (id ∷ ids) [] e g = absurd (cc)
  texts_named (term ∷ terms) (id ∷ ids) (also ∷ others) e g =
      let first : number_in prefixes one (name_of term) ≡ Some id.0 = cc in
      let second : number_in prefixes other (name_of term) ≡ Some also.0 = cc in
      let firsts : map (λ term. number_in prefixes one (name_of term)) terms ≡ map (λ (id : NameId). Some id.0) ids = cc in
      let seconds : map (λ term. number_in prefixes other (name_of term)) terms ≡ map (λ (id : NameId). Some id.0) others = cc in
      (text_named (name_of term) id.0 also.0 first second, texts_named terms ids others firsts seconds)

  -- the numbers are those of names that both lists have
  named_shared : (ids others : List NameId) → AreNamed ids others → (number : ℕ) → is_number_of ids number ≡ true → (b : ℕ) × IsOneName one other number b
  named_shared [] [] named number h = absurd (true≢false (sym h))
  named_shared [] (also ∷ others) named number h = absurd named
  named_shared (id ∷ ids) [] named number h = absurd named
  named_shared (id ∷ ids) (also ∷ others) named number h = by (id.0 == number) refl h (named_shared ids others named.1 number)
    where
      by : (t : Bool) → (id.0 == number) ≡ t → (t || is_number_of ids number) ≡ true → (is_number_of ids number ≡ true → (b : ℕ) × IsOneName one other number b) → (b : ℕ) × IsOneName one other number b
      by true e h rest = (also.0, record { space = named.0.space; local = named.0.local; first = named.0.first ∙ ap Some (eqb-true id.0 number e); second = named.0.second })
      by false e h rest = rest h

  named_shared_back : (ids others : List NameId) → AreNamed ids others → (number : ℕ) → is_number_of others number ≡ true → (a : ℕ) × IsOneName one other a number
  named_shared_back [] [] named number h = absurd (true≢false (sym h))
  named_shared_back [] (also ∷ others) named number h = absurd named
  named_shared_back (id ∷ ids) [] named number h = absurd named
  named_shared_back (id ∷ ids) (also ∷ others) named number h = by (also.0 == number) refl h (named_shared_back ids others named.1 number)
    where
      by : (t : Bool) → (also.0 == number) ≡ t → (t || is_number_of others number) ≡ true → (is_number_of others number ≡ true → (a : ℕ) × IsOneName one other a number) → (a : ℕ) × IsOneName one other a number
      by true e h rest = (id.0, record { space = named.0.space; local = named.0.local; first = named.0.first; second = named.0.second ∙ ap Some (eqb-true also.0 number e) })
      by false e h rest = rest h

  module _ (f : ℕ → ℕ) (is : IsRenaming one other f) where
    id_renamed : (id also : NameId) → IsOneName one other id.0 also.0 → also ≡ renamed_id f id
    id_renamed id also name = let carried = is.carries name.space name.local id.0 also.0 name.first name.second in λ i. record { 0 = sym carried i }

    ids_renamed : (ids others : List NameId) → AreNamed ids others → others ≡ map (renamed_id f) ids
    ids_renamed [] [] named = refl
    ids_renamed [] (also ∷ others) named = absurd named
    ids_renamed (id ∷ ids) [] named = absurd named
    ids_renamed (id ∷ ids) (also ∷ others) named = λ i. id_renamed id also named.0 i ∷ ids_renamed ids others named.1 i

    -- the nodes are those names
    nodes_alike : (ids others nodes other_nodes : List NameId) → AreNamed ids others → AreNodesOf ids (map (λ (id : NameId). id.0) nodes) → AreNodesOf others (map (λ (id : NameId). id.0) other_nodes) → AreAlike f one other nodes other_nodes
    nodes_alike ids others nodes other_nodes named these those = record {
      same = λ number.
          listed_among other_nodes (f number)
          ∙ those.nodes (f number)
          ∙ ap (λ xs. is_number_of xs (f number)) (ids_renamed ids others named)
          ∙ any_changed (renamed_id f) (λ (id : NameId). id.0 == f number) (λ (id : NameId). id.0 == number) (λ id. same_number f is.injective id.0 number) ids
          ∙ sym (these.nodes number)
          ∙ sym (listed_among nodes number);
      shared = λ number h. named_shared ids others named number (sym (these.nodes number) ∙ sym (listed_among nodes number) ∙ h);
      shared_back = λ number h. named_shared_back ids others named number (sym (those.nodes number) ∙ sym (listed_among other_nodes number) ∙ h);
    }

    none_alike : AreAlike f one other [] []
    none_alike = record {
      same = λ number. refl;
      shared = λ number h. absurd (true≢false (sym h));
      shared_back = λ number h. absurd (true≢false (sym h));
    }

    typed_alike : (typed other_typed : List NameId) → typed ≡ [] → other_typed ≡ [] → AreAlike f one other typed other_typed
    typed_alike typed other_typed e g = subst (λ ids. AreAlike f one other ids other_typed) (sym e) (subst (λ ids. AreAlike f one other [] ids) (sym g) none_alike)

-- ---- the network

module _ (f : ℕ → ℕ) (total : NameId) where
  arcs_exchanged : (terms : List (List ℕ)) (ids : List NameId) → map (arc_to (renamed_id f total)) (zip terms (map (renamed_id f) ids)) ≡ map (renamed_arc f) (map (arc_to total) (zip terms ids))
  arcs_exchanged [] ids = refl
  arcs_exchanged (term ∷ terms) [] = refl
  arcs_exchanged (term ∷ terms) (id ∷ ids) = ap (λ arcs. arc_to (renamed_id f total) (term, renamed_id f id) ∷ arcs) (arcs_exchanged terms ids)

  network_exchanged : (terms : List (List ℕ)) (ids : List NameId) → sum_network (renamed_id f total) (zip terms (map (renamed_id f) ids)) ≡ renamed_network f (sum_network total (zip terms ids))
  network_exchanged terms ids = λ i. record { role = (sum_network total (zip terms ids)).role; arcs = arcs_exchanged terms ids i }

-- the words of `sum` have one numbering but for the numbers themselves
pub one_sum : NumbersTellNames → NamesStandAtNumbers → (prefixes : Bindings) (names other_names : List Expanded) (sum : SumWords) (total other_total : NameId) (terms other_terms : List NameId) (wanted other_wanted : Wanted)
    → AreSumNumbers prefixes names sum total terms wanted
    → AreSumNumbers prefixes other_names sum other_total other_terms other_wanted
    → IsRenamed names (sum_network total (zip sum.terms terms) ∷ []) wanted other_names (sum_network other_total (zip sum.terms other_terms) ∷ []) other_wanted
one_sum tell stand prefixes names other_names sum total other_total terms other_terms wanted other_wanted these those =
    let f = (renaming tell stand names other_names).0 in
    let is : IsRenaming names other_names f = (renaming tell stand names other_names).1 in
    let total_named = text_named prefixes names other_names sum.total total.0 other_total.0 these.total_is those.total_is in
    let terms_named = texts_named prefixes names other_names sum.terms terms other_terms these.terms_are those.terms_are in
    let total_renamed = id_renamed prefixes names other_names f is total other_total total_named in
    let terms_renamed = ids_renamed prefixes names other_names f is terms other_terms terms_named in
    record {
      by = f;
      injective = is.injective;
      networks_are =
          ap (λ id. sum_network id (zip sum.terms other_terms) ∷ []) total_renamed
          ∙ ap (λ ids. sum_network (renamed_id f total) (zip sum.terms ids) ∷ []) terms_renamed
          ∙ ap (λ network. network ∷ []) (network_exchanged f total sum.terms terms);
      known = known_alike f names other_names is wanted other_wanted
          (nodes_alike prefixes names other_names f is (total ∷ terms) (other_total ∷ other_terms) wanted.nodes other_wanted.nodes (total_named, terms_named) these.nodes those.nodes)
          (typed_alike prefixes names other_names f is wanted.typed other_wanted.typed these.typed those.typed);
    }
