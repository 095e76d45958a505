-- One more document of a taxonomy.
use Rattle.std.specs.Prelude.{◌≡◌, ◌++◌, List, [], ◌∷◌, Option, Some, None, option_and_then}
use Rattle.std.specs.Option.{option_or}
use Rattle.xc_chars.specs.Parts.{file_name}
use Rattle.xc_concepts.specs.Held.{IsWith}
use Rattle.xc_concepts.specs.declared.schema.Schema.{Schema}
use Rattle.xc_top.specs.Taxonomies.{Part, schema_broken}
use Rattle.xc_top.specs.declared.status.Answer.{Answer}

-- the schemas, with what the schema of this document declares at their end; a document that is none leaves them as they are
abbrev pub IsAdded : Option Part → List Schema → List Schema → Type 0
IsAdded None old new = new ≡ old
IsAdded (Some part) old new = IsWith (file_name part.word) part.nodes old new

-- what is answered of the schema of this document, where it is one and breaks a rule beside the earlier ones
abbrev pub broken_beside : List Schema → Option Part → Option Answer
broken_beside earlier part = option_and_then (schema_broken earlier) part

-- what is answered of the first schema that breaks a rule, one after another, each beside those that were added before it
abbrev pub first_broken_beside : List Schema → List Part → List Schema → Option Answer
first_broken_beside earlier [] schemas = None
first_broken_beside earlier (part ∷ parts) [] = schema_broken earlier part
first_broken_beside earlier (part ∷ parts) (schema ∷ schemas) = option_or (schema_broken earlier part) (first_broken_beside (earlier ++ schema ∷ []) parts schemas)
