-- What schemas declare: XBRL 2.1, section 5.1.1.
use Rattle.std.specs.Prelude.{◌≡◌, ℕ, List, codes, map, flat_map, filter_map, Option, option_map, option_and_then, is_some}
use Rattle.xc_lists.specs.Places.{places}
use Rattle.xc_concepts.specs.References.{type_name, type_of_element, base_of_type}
use Rattle.xc_concepts.specs.Schemas.{dimensions_space, text_at, top_name, target_space}
use Rattle.xc_concepts.specs.declared.schema.Concept.{Concept}
use Rattle.xc_concepts.specs.declared.schema.Declared.{Declared}
use Rattle.xc_concepts.specs.declared.schema.NamedType.{NamedType}
use Rattle.xc_concepts.specs.declared.schema.Schema.{Schema}
use Rattle.xc_elements.specs.Trees.{attribute_of}
use Rattle.xc_elements.specs.declared.nodes.Node.{Node}
use Rattle.xc_names.specs.Names.{name_of}

-- what a node declares that is a concept with this name; it is typed where it has an `xbrldt:typedDomainRef`: XBRL Dimensions 1.0, section 2.5.2.1
abbrev pub declared_as : List Node → ℕ → List ℕ → Declared
declared_as nodes at name = record {
  id = text_at nodes at (codes "id");
  name = name_of (target_space nodes) name;
  first_type = option_and_then (type_name nodes) (type_of_element nodes at);
  typed = is_some (attribute_of nodes at dimensions_space (codes "typedDomainRef"));
}

-- the concept that a node declares: an `xs:element` child of the root with a `name`
abbrev pub declared_at : List Node → ℕ → Option Declared
declared_at nodes at = option_map (declared_as nodes at) (top_name nodes (codes "element") at)

-- the type that a node declares under this name, with the name of its base
abbrev pub type_as : List Node → ℕ → List ℕ → NamedType
type_as nodes at name = record { name = name_of (target_space nodes) name; base = option_and_then (type_name nodes) (base_of_type nodes at) }

-- the type that a node declares: an `xs:complexType` child of the root with a `name`
abbrev pub named_type_at : List Node → ℕ → Option NamedType
named_type_at nodes at = option_map (type_as nodes at) (top_name nodes (codes "complexType") at)

-- the concepts of a document, in its order
abbrev pub declared_in : List Node → List Declared
declared_in nodes = filter_map (declared_at nodes) (places nodes)

-- the types of a document, in its order
abbrev pub named_types_in : List Node → List NamedType
named_types_in nodes = filter_map (named_type_at nodes) (places nodes)

-- the schema is what this file declares: its concepts, whatever their numbers, and its types
pub record IsSchemaOf (file : List ℕ) (nodes : List Node) (schema : Schema) : Type 0 where
  pub from : schema.file ≡ file
  pub concepts : map (λ c. c.declared) schema.concepts ≡ declared_in nodes
  pub types : schema.types ≡ named_types_in nodes

-- the concepts of all schemas, in the order of reading
abbrev pub concepts_in : List Schema → List Concept
concepts_in schemas = flat_map (λ s. s.concepts) schemas

-- the types of all schemas, in the order of reading
abbrev pub types_in : List Schema → List NamedType
types_in schemas = flat_map (λ s. s.types) schemas
