-- The numbers that concepts have, and what ids and numbers say.
use Rattle.std.specs.Prelude.{◌≡◌, ◌&&◌, ◌++◌, ℕ, Bool, false, List, [], ◌∷◌, find, Option, Some, option_map, option_and_then, All}
use Rattle.std.specs.List.{list_any}
use Rattle.std.specs.List.Sorted.{IsStrictlySortedBy}
use Rattle.std.specs.Option.{option_map_or}
use Rattle.std.specs.Ordering.{nat_cmp}
use Rattle.std.specs.Str.{bytes_eq}
use Rattle.xc_concepts.specs.Chains.{has_number}
use Rattle.xc_concepts.specs.Declarations.{concepts_in, IsSchemaOf}
use Rattle.xc_concepts.specs.declared.schema.Concept.{Concept}
use Rattle.xc_concepts.specs.declared.schema.Schema.{Schema}
use Rattle.xc_elements.specs.declared.nodes.Node.{Node}
use Rattle.xc_names.specs.NameSets.{is_among}
use Rattle.xc_names.specs.Names.{number_of}
use Rattle.xc_names.specs.declared.expanded.Expanded.{Expanded}

-- the concept's name has its number among these names
abbrev pub IsHeld : List Expanded → Concept → Type 0
IsHeld names c = number_of c.declared.name.space c.declared.name.local names ≡ Some c.number.0

-- each concept's name has its number among these names
abbrev pub AreHeld : List Schema → List Expanded → Type 0
AreHeld schemas names = All (IsHeld names) (concepts_in schemas)

-- the schemas, with the one that this file declares at their end
abbrev pub IsWith : List ℕ → List Node → List Schema → List Schema → Type 0
IsWith file nodes old new = (schema : Schema) × IsSchemaOf file nodes schema × (new ≡ old ++ schema ∷ [])

-- the concept has this id
abbrev pub has_id : List ℕ → Concept → Bool
has_id id c = option_map_or (bytes_eq id) c.declared.id false

-- the schema of this file
abbrev pub schema_of : List Schema → List ℕ → Option Schema
schema_of schemas file = find (λ s. bytes_eq file s.file) schemas

-- the number of the concept that an id names in a file
abbrev pub number_by_id : List Schema → List ℕ → List ℕ → Option ℕ
number_by_id schemas file id = option_and_then (λ s. option_map (λ c. c.number.0) (find (has_id id) s.concepts)) (schema_of schemas file)

-- the concept has this number and is typed
abbrev pub is_typed_as : ℕ → Concept → Bool
is_typed_as number c = has_number number c && c.declared.typed

-- a typed concept has this number
abbrev pub is_typed : List Schema → ℕ → Bool
is_typed schemas number = list_any (is_typed_as number) (concepts_in schemas)

-- the numbers of the typed concepts, each once and ascending
pub record AreTyped (schemas : List Schema) (numbers : List ℕ) : Type 0 where
  pub ascending : IsStrictlySortedBy nat_cmp numbers
  pub typed : (number : ℕ) → is_among numbers number ≡ is_typed schemas number
