-- What follows concepts and types in chains of type names, in lists and maps of links.
use Rattle.indexmap.specs.IndexMap.{IndexMap, get}
use Rattle.std.specs.Prelude.{◌≡◌, ℕ, Bool, nat_eq, List, Option, Some, None, find, option_map, if◌then◌else◌}
use Rattle.xc_concepts.specs.Chains.{has_number, type_named}
use Rattle.xc_concepts.specs.Rules.{is_same_name}
use Rattle.xc_concepts.specs.declared.links.Link.{Link}
use Rattle.xc_concepts.specs.declared.links.TypeName.{TypeName}
use Rattle.xc_concepts.specs.declared.schema.Concept.{Concept}
use Rattle.xc_concepts.specs.declared.schema.NamedType.{NamedType}
use Rattle.xc_names.specs.Names.{name_of}
use Rattle.xc_names.specs.declared.expanded.Expanded.{Expanded}

-- the expanded name of a key
abbrev pub as_name : TypeName → Expanded
as_name key = name_of key.space key.local

-- keys are equal where their names are
abbrev pub is_same_type : TypeName → TypeName → Bool
is_same_type a b = is_same_name (as_name a) (as_name b)

-- what follows in a link, where it has this key
abbrev pub own_next : {K : Type 0} → (K → K → Bool) → K → Link K → Option (Option TypeName)
own_next same key link = if same link.key key then Some link.next else None

-- what follows in the first of these links that has this key
abbrev pub next_of : {K : Type 0} → (K → K → Bool) → K → List (Link K) → Option (Option TypeName)
next_of same key links = option_map (λ l. l.next) (find (λ l. same l.key key) links)

-- the same as a name
abbrev pub next_name : Option (Option TypeName) → Option (Option Expanded)
next_name next = option_map (option_map as_name) next

-- the first type name of the first of these concepts that has this number
abbrev pub first_type_of : ℕ → List Concept → Option (Option Expanded)
first_type_of number concepts = option_map (λ c. c.declared.first_type) (find (has_number number) concepts)

-- the base of the first type of this name
abbrev pub base_of : List NamedType → Expanded → Option (Option Expanded)
base_of types name = option_map (λ t. t.base) (type_named types name)

-- the map has the first type name of each concept's number, and nothing else
abbrev pub AreFirstTypes : {S : Type 0} → List Concept → IndexMap ℕ (Option TypeName) S → Type 0
AreFirstTypes concepts links = (number : ℕ) → next_name (get nat_eq links number) ≡ first_type_of number concepts

-- the map has the base of each type's name, and nothing else
abbrev pub AreBases : {S : Type 0} → List NamedType → IndexMap TypeName (Option TypeName) S → Type 0
AreBases types links = (name : TypeName) → next_name (get is_same_type links name) ≡ base_of types (as_name name)
