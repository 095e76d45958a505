-- Schemas of which the first are added.
use Rattle.std.proofs.Common.{◌≡◌, List, [], ◌∷◌, ◌++◌, map, Option, Some, None, refl, sym, ap, subst, ◌∙◌, append_assoc, append-nil}
use Rattle.std.specs.List.{cons_option}
use Rattle.std.specs.Option.{option_or}
use Rattle.xc_chars.specs.Parts.{file_name}
use Rattle.xc_concepts.specs.Declarations.{IsSchemaOf, declared_in, named_types_in}
use Rattle.xc_concepts.specs.declared.schema.Concept.{Concept}
use Rattle.xc_concepts.specs.declared.schema.Declared.{Declared}
use Rattle.xc_concepts.specs.declared.schema.Schema.{Schema}
use Rattle.xc_top.proofs.Beside.{by_places}
use Rattle.xc_top.specs.Steps.Added.{IsAdded, broken_beside, first_broken_beside}
use Rattle.xc_top.specs.Taxonomies.{Part, AreSchemasOf, schema_broken, first_schema_broken}
use Rattle.xc_top.specs.declared.status.Answer.{Answer}

-- of these schemas some are left: with what each of them declares, all are declared, and the first of them that breaks a rule is the first of all
pub record Added (parts left : List Part) (done : List Schema) : Type 0 where
  pub schemas : (rest : List Schema) → AreSchemasOf left rest → AreSchemasOf parts (done ++ rest)
  pub first : (rest : List Schema) → AreSchemasOf left rest → first_broken_beside [] parts (done ++ rest) ≡ first_broken_beside done left rest

pub added_none : (parts : List Part) → Added parts parts []
added_none parts = record { schemas = λ rest h. h; first = λ rest h. refl }

-- a concept with a number
abbrev numbered : Declared → Concept
numbered declared = record { number = record { 0 = 0 }; declared = declared }

undo : (ds : List Declared) → map (λ c. c.declared) (map numbered ds) ≡ ds
undo [] = refl
undo (d ∷ ds) = ap (λ xs. d ∷ xs) (undo ds)

-- each schema declares something
some_schema : (part : Part) → (schema : Schema) × IsSchemaOf (file_name part.word) part.nodes schema
some_schema part = (
  record { file = file_name part.word; concepts = map numbered (declared_in part.nodes); types = named_types_in part.nodes },
  record { from = refl; concepts = undo (declared_in part.nodes); types = refl },
)

some_schemas : (parts : List Part) → (schemas : List Schema) × AreSchemasOf parts schemas
some_schemas [] = ([], tt)
some_schemas (part ∷ parts) =
    let first = some_schema part in
    let rest = some_schemas parts in
    (first.0 ∷ rest.0, (first.1, rest.1))

-- one more schema is added
pub added_more : (parts left after : List Part) (part : Part) (done : List Schema) (schema : Schema)
    → left ≡ part ∷ after → IsSchemaOf (file_name part.word) part.nodes schema → schema_broken done part ≡ None
    → Added parts left done → Added parts after (done ++ schema ∷ [])
added_more parts left after part done schema e declares sound added =
    let fits : (rest : List Schema) → AreSchemasOf after rest → AreSchemasOf left (schema ∷ rest) =
    λ rest are. subst (λ ps. AreSchemasOf ps (schema ∷ rest)) (sym e) (declares, are) in
    record {
      schemas = λ rest are. subst (λ ss. AreSchemasOf parts ss) (sym (append_assoc done (schema ∷ []) rest)) (added.schemas (schema ∷ rest) (fits rest are));
      first = λ rest are.
          ap (first_broken_beside [] parts) (append_assoc done (schema ∷ []) rest)
          ∙ added.first (schema ∷ rest) (fits rest are)
          ∙ ap (λ ps. first_broken_beside done ps (schema ∷ rest)) e
          ∙ ap (λ o. option_or o (first_broken_beside (done ++ schema ∷ []) after rest)) sound;
    }

-- all are added
pub added_all : (parts left : List Part) (done : List Schema) → left ≡ [] → Added parts left done → AreSchemasOf parts done
added_all parts left done e added = subst (λ ss. AreSchemasOf parts ss) (append-nil done) (added.schemas [] (subst (λ ps. AreSchemasOf ps []) (sym e) tt))

pub added_sound : (parts left : List Part) (done : List Schema) → left ≡ [] → Added parts left done → first_schema_broken parts done ≡ None
added_sound parts left done e added =
    sym (by_places parts done (added_all parts left done e added))
    ∙ ap (first_broken_beside [] parts) (sym (append-nil done))
    ∙ added.first [] (subst (λ ps. AreSchemasOf ps []) (sym e) tt)
    ∙ ap (λ ps. first_broken_beside done ps []) e

-- a schema breaks a rule
broken_next : (done : List Schema) (part : Part) (after : List Part) (rest : List Schema) (answer : Answer) → schema_broken done part ≡ Some answer → first_broken_beside done (part ∷ after) rest ≡ Some answer
broken_next done part after [] answer e = e
broken_next done part after (schema ∷ rest) answer e = ap (λ o. option_or o (first_broken_beside (done ++ schema ∷ []) after rest)) e

pub added_not : (parts left after : List Part) (part : Part) (done : List Schema) (answer : Answer)
    → left ≡ part ∷ after → schema_broken done part ≡ Some answer → Added parts left done
    → (schemas : List Schema) × AreSchemasOf parts schemas × (first_schema_broken parts schemas ≡ Some answer)
added_not parts left after part done answer e broken added =
    let rest = some_schemas left in
    let are = added.schemas rest.0 rest.1 in (
      done ++ rest.0,
      are,
      sym (by_places parts (done ++ rest.0) are) ∙ added.first rest.0 rest.1 ∙ ap (λ ps. first_broken_beside done ps rest.0) e ∙ broken_next done part after rest.0 answer broken,
    )

-- ---- by documents, of which some are schemas

none_is_some : (answer : Answer) → None ≡ Some answer → ⊥
none_is_some answer e = cc

-- a document is added, where it is a schema
pub added_document : (parts left after : List Part) (part : Option Part) (done new : List Schema)
    → left ≡ cons_option part after → IsAdded part done new → broken_beside done part ≡ None
    → Added parts left done → Added parts after new
added_document parts left after None done new e is sound added = subst (λ ss. Added parts after ss) (sym is) (subst (λ ps. Added parts ps done) e added)
added_document parts left after (Some part) done new e is sound added =
    subst (λ ss. Added parts after ss) (sym is.2) (added_more parts left after part done is.0 e is.1 sound added)

-- a document breaks a rule
pub added_document_not : (parts left after : List Part) (part : Option Part) (done : List Schema) (answer : Answer)
    → left ≡ cons_option part after → broken_beside done part ≡ Some answer → Added parts left done
    → (schemas : List Schema) × AreSchemasOf parts schemas × (first_schema_broken parts schemas ≡ Some answer)
added_document_not parts left after None done answer e broken added = absurd (none_is_some answer broken)
added_document_not parts left after (Some part) done answer e broken added = added_not parts left after part done answer e broken added
