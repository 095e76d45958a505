-- Numbers of concepts in maps by ids and files.
use Rattle.std.proofs.Common.{◌≡◌, ◌<◌, ◌+◌, ℕ, List, [], ◌∷◌, Bool, true, false, Option, Some, None, cond, drop, get_or, length, ◌++◌, ◌||◌, find, option_map, option_and_then, if◌then◌else◌, add-one, true≢false, refl, sym, ap, ◌∙◌}
use Rattle.std.proofs.Math.Seq.{drop-cons}
use Rattle.std.proofs.lemmas.Slice.Eq.{bytes_eq-Decides}
use Rattle.std.proofs.lemmas.Cmp.{nat_list_eq_equiv}
use Rattle.std.proofs.lemmas.List.Folds.{find-append}
use Rattle.std.specs.List.{list_any}
use Rattle.std.specs.Option.{option_or}
use Rattle.std.specs.Str.{bytes_eq}
use Rattle.xc_concepts.specs.Held.{has_id, number_by_id}
use Rattle.xc_concepts.specs.Rules.{has_file}
use Rattle.xc_concepts.specs.Steps.Ids.{number_with_id, own_number}
use Rattle.xc_concepts.specs.declared.schema.Concept.{Concept}
use Rattle.xc_concepts.specs.declared.schema.Schema.{Schema}

-- what is found in a map that is noted under a text, or in another
pub and_then_cond : {A B : Type 0} (f : A → Option B) (b : Bool) (x : A) (o : Option A) → option_and_then f (cond b (Some x) o) ≡ cond b (f x) (option_and_then f o)
and_then_cond f true x o = refl
and_then_cond f false x o = refl

-- what is first of three, however they are grouped
pub or_along : {A : Type 0} (a b c : Option A) → option_or (option_or a b) c ≡ option_or a (option_or b c)
or_along None b c = refl
or_along (Some x) b c = refl

in_front : (id : List ℕ) (c : Concept) (rest : List Concept) → number_with_id (c ∷ rest) id ≡ option_or (own_number id c) (number_with_id rest id)
in_front id c rest = by (has_id id c)
  where
    by : (b : Bool) → option_map (λ d. d.number.0) (if b then Some c else find (has_id id) rest) ≡ option_or (if b then Some c.number.0 else None) (option_map (λ d. d.number.0) (find (has_id id) rest))
    by true = refl
    by false = refl

-- numbers so far, with the next concept, and what is left
pub numbers_step : (concepts : List Concept) (i : ℕ) (d : Concept) (id : List ℕ) (old new : Option ℕ) → i < length concepts → d ≡ get_or concepts i d → new ≡ option_or old (own_number id d)
    → option_or new (number_with_id (drop (i + 1) concepts) id) ≡ option_or old (number_with_id (drop i concepts) id)
numbers_step concepts i d id old new h is more =
    let rest = number_with_id (drop (i + 1) concepts) id in
    let next : number_with_id (drop i concepts) id ≡ option_or (own_number id d) rest =
    ap (λ cs. number_with_id cs id) (drop-cons concepts i d h ∙ (λ j. sym is j ∷ drop (sym (add-one i) j) concepts)) ∙ in_front id d (drop (i + 1) concepts) in
    ap (λ o. option_or o rest) more ∙ or_along old (own_number id d) rest ∙ ap (option_or old) (sym next)

-- ---- of files

none_found : {A : Type 0} (p : A → Bool) (xs : List A) → list_any p xs ≡ false → find p xs ≡ None
none_found p [] h = refl
none_found p (x ∷ xs) h = by (p x) h (none_found p xs)
  where
    by : (b : Bool) → (b || list_any p xs) ≡ false → (list_any p xs ≡ false → find p xs ≡ None) → (if b then Some x else find p xs) ≡ None
    by true e rest = absurd (true≢false e)
    by false e rest = rest e

or_none : {A : Type 0} (o : Option A) → option_or o None ≡ o
or_none None = refl
or_none (Some x) = refl

-- the numbers by files and ids, after those of a new file are noted
pub numbers_after : (schemas : List Schema) (schema : Schema) (numbers : List ℕ → Option ℕ) (old new : List ℕ → List ℕ → Option ℕ)
    → has_file schemas schema.file ≡ false
    → ((id : List ℕ) → numbers id ≡ number_with_id schema.concepts id)
    → ((file id : List ℕ) → old file id ≡ number_by_id schemas file id)
    → ((file id : List ℕ) → new file id ≡ cond (bytes_eq schema.file file) (numbers id) (old file id))
    → (file id : List ℕ) → new file id ≡ number_by_id (schemas ++ schema ∷ []) file id
numbers_after schemas schema numbers old new unknown own was more file id =
    more file id ∙ by (bytes_eq schema.file file) refl
    ∙ ap (option_and_then given) (sym (find-append named schemas (schema ∷ [])))
  where
    named : Schema → Bool
    named s = bytes_eq file s.file

    given : Schema → Option ℕ
    given s = number_with_id s.concepts id

    by : (b : Bool) → bytes_eq schema.file file ≡ b → cond b (numbers id) (old file id) ≡ option_and_then given (option_or (find named schemas) (if named schema then Some schema else None))
    by true e =
        let none : find named schemas ≡ None = none_found named schemas (ap (has_file schemas) (sym ((bytes_eq-Decides schema.file file).0 e)) ∙ unknown) in
        own id ∙ sym (λ i. option_and_then given (option_or (none i) (if (nat_list_eq_equiv.symm file schema.file ∙ e) i then Some schema else None)))
    by false e =
        was file id
        ∙ ap (option_and_then given) (sym (or_none (find named schemas)))
        ∙ sym (λ i. option_and_then given (option_or (find named schemas) (if (nat_list_eq_equiv.symm file schema.file ∙ e) i then Some schema else None)))
