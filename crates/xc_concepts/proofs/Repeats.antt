-- Texts and names that are repeated.
use Rattle.std.proofs.Common.{◌≡◌, ◌&&◌, ◌||◌, ◌++◌, ◌+◌, ℕ, List, [], ◌∷◌, Bool, true, false, Option, Some, None, codes, map, filter_map, option_map, option_to_list, refl, sym, ap, ◌∙◌}
use Rattle.std.proofs.lemmas.Cmp.{nat_list_eq_equiv}
use Rattle.std.proofs.lemmas.List.{map-append}
use Rattle.std.proofs.lemmas.List.Folds.{list_any-append}
use Rattle.std.proofs.lemmas.Map.Text.{is_eq-slice_cmp}
use Rattle.std.specs.BTreeMap.{is_at}
use Rattle.std.specs.BTreeSet.{insert_key}
use Rattle.std.specs.Borrow.{Bor}
use Rattle.std.specs.Cmp.Lexicographic.{slice_cmp}
use Rattle.std.specs.FinMap.{nat_cmp-IsAntisymmetric, slice_cmp-IsAntisymmetric}
use Rattle.std.specs.List.{list_any}
use Rattle.std.specs.Option.{option_map_or}
use Rattle.std.specs.Ordering.{nat_cmp}
use Rattle.std.specs.Str.{bytes_eq}
use Rattle.xc_concepts.specs.Declarations.{declared_at, concepts_in}
use Rattle.xc_concepts.specs.Steps.{has_text, is_text, is_text_of, is_concept_of, AreTexts}
use Rattle.xc_lists.specs.Places.{before, is_repeated}
use Rattle.xc_concepts.specs.Rules.{is_same_name, repeats_concept}
use Rattle.xc_concepts.specs.Schemas.{target_space, top_name}
use Rattle.xc_concepts.specs.declared.schema.Concept.{Concept}
use Rattle.xc_concepts.specs.declared.schema.Schema.{Schema}
use Rattle.xc_elements.specs.declared.nodes.Node.{Node}
use Rattle.xc_lists.proofs.Anys.{any_map, any_put_in}
use Rattle.xc_lists.proofs.Ranges.{gathered_more}
use Rattle.xc_names.specs.Names.{name_of}
use Rattle.xc_names.specs.declared.expanded.Expanded.{Expanded}

-- a text that is put into an ordered set is one more
pub text_noted : (ks : List (Bor (List ℕ))) (k : Bor (List ℕ)) (x : List ℕ) → has_text (insert_key (λ a b. slice_cmp nat_cmp a.now b.now) ks k) x ≡ (has_text ks x || bytes_eq x k.now)
text_noted ks k x = any_put_in (λ a b. slice_cmp nat_cmp a.now b.now) (λ t. bytes_eq x t.now) (λ k t e. ap (bytes_eq x) (slice_cmp-IsAntisymmetric nat_cmp-IsAntisymmetric k.now t.now e)) ks k

-- what an ordered set of texts has
pub text_there : (ks : List (Bor (List ℕ))) (k : Bor (List ℕ)) → list_any (is_at (λ t. slice_cmp nat_cmp k.now t.now)) ks ≡ has_text ks k.now
text_there ks k = λ i. list_any (λ t. is_eq-slice_cmp k.now t.now i) ks

-- what is given at one more place is among the texts
pub texts_more : (old new : List (Bor (List ℕ))) (given : ℕ → Option (List ℕ)) (at : ℕ) (text : Option (Bor (List ℕ)))
    → option_map (λ t. t.now) text ≡ given at → AreTexts old (filter_map given (before at)) → ((x : List ℕ) → has_text new x ≡ (has_text old x || is_text x text)) → AreTexts new (filter_map given (before (at + 1)))
texts_more old new given at text here earlier more x =
    more x
    ∙ (λ i. earlier x i || (by text ∙ ap (λ o. list_any (bytes_eq x) (option_to_list o)) here) i)
    ∙ sym (list_any-append (bytes_eq x) (filter_map given (before at)) (option_to_list (given at)))
    ∙ ap (list_any (bytes_eq x)) (sym (gathered_more given at))
  where
    alone : (b : Bool) → b ≡ (b || false)
    alone true = refl
    alone false = refl

    by : (text : Option (Bor (List ℕ))) → is_text x text ≡ list_any (bytes_eq x) (option_to_list (option_map (λ t. t.now) text))
    by None = refl
    by (Some t) = alone (bytes_eq x t.now)

pub text_repeated : (texts : List (Bor (List ℕ))) (given : ℕ → Option (List ℕ)) (at : ℕ) (text : Option (Bor (List ℕ)))
    → option_map (λ t. t.now) text ≡ given at → AreTexts texts (filter_map given (before at)) → is_text_of texts text ≡ is_repeated bytes_eq [] given at
text_repeated texts given at text here earlier = by text ∙ ap (λ g. option_map_or (λ x. list_any (bytes_eq x) (filter_map given (before at))) g false) here
  where
    by : (text : Option (Bor (List ℕ))) → is_text_of texts text ≡ option_map_or (λ x. list_any (bytes_eq x) (filter_map given (before at))) (option_map (λ t. t.now) text) false
    by None = refl
    by (Some x) = earlier x.now

any_flat : (p : Expanded → Bool) (schemas : List Schema) → list_any (λ s. list_any (λ c. p c.declared.name) s.concepts) schemas ≡ list_any p (map (λ c. c.declared.name) (concepts_in schemas))
any_flat p [] = refl
any_flat p (s ∷ schemas) =
    let name : Concept → Expanded = λ c. c.declared.name in
    (λ i. any_map p name s.concepts i || any_flat p schemas i)
    ∙ sym (list_any-append p (map name s.concepts) (map name (concepts_in schemas)))
    ∙ ap (list_any p) (sym (map-append name s.concepts (concepts_in schemas)))

-- the names of concepts, by their local parts
names_of : (nodes : List Node) (ks : List ℕ) → filter_map (λ k. option_map (λ d. d.name) (declared_at nodes k)) ks ≡ map (name_of (target_space nodes)) (filter_map (top_name nodes (codes "element")) ks)
names_of nodes [] = refl
names_of nodes (k ∷ ks) = by (top_name nodes (codes "element") k) refl (names_of nodes ks)
  where
    by : (o : Option (List ℕ)) → top_name nodes (codes "element") k ≡ o → filter_map (λ k. option_map (λ d. d.name) (declared_at nodes k)) ks ≡ map (name_of (target_space nodes)) (filter_map (top_name nodes (codes "element")) ks)
        → filter_map (λ k. option_map (λ d. d.name) (declared_at nodes k)) (k ∷ ks) ≡ map (name_of (target_space nodes)) (filter_map (top_name nodes (codes "element")) (k ∷ ks))
    by None e rest = rw e rest
    by (Some x) e rest = rw e (ap (λ xs. name_of (target_space nodes) x ∷ xs) rest)

same_space : (space x : List ℕ) (locals : List (List ℕ)) → list_any (is_same_name (name_of space x)) (map (name_of space) locals) ≡ list_any (bytes_eq x) locals
same_space space x [] = refl
same_space space x (y ∷ ys) = (λ i. (nat_list_eq_equiv.refl space i && bytes_eq x y) || same_space space x ys i)

pub concept_repeated : (schemas : List Schema) (nodes : List Node) (at : ℕ) (space : List ℕ) (texts : List (Bor (List ℕ))) (local : Option (Bor (List ℕ)))
    → space ≡ target_space nodes → option_map (λ t. t.now) local ≡ top_name nodes (codes "element") at → AreTexts texts (filter_map (top_name nodes (codes "element")) (before at))
    → (is_concept_of schemas space local || is_text_of texts local) ≡ repeats_concept schemas nodes at
concept_repeated schemas nodes at space texts local same here earlier = by local here
  where
    by : (local : Option (Bor (List ℕ))) → option_map (λ t. t.now) local ≡ top_name nodes (codes "element") at → (is_concept_of schemas space local || is_text_of texts local) ≡ repeats_concept schemas nodes at
    by None e = rw (← e) refl
    by (Some x) e =
        let p : Expanded → Bool = is_same_name (name_of (target_space nodes) x.now) in
        let old : List Expanded = map (λ c. c.declared.name) (concepts_in schemas) in
        let new : List Expanded = filter_map (λ k. option_map (λ d. d.name) (declared_at nodes k)) (before at) in
        let named : repeats_concept schemas nodes at ≡ list_any p (old ++ new) = rw (← e) refl in
        rw same ((λ i. any_flat p schemas i || (earlier x.now ∙ sym (same_space (target_space nodes) x.now _) ∙ ap (list_any p) (sym (names_of nodes (before at)))) i)
        ∙ sym (list_any-append p old new) ∙ sym named)
