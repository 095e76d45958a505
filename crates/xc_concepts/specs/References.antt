-- The texts of a schema that name types, and the types that they name: XBRL 2.1, section 5.1.1.3.
use Rattle.std.specs.Prelude.{ℕ, List, [], codes, Option, Some, None, option_map, option_and_then, unwrap_or, is_some, if◌then◌else◌}
use Rattle.std.specs.Option.{option_or}
use Rattle.xc_lists.specs.Places.{places, is_place, first_given}
use Rattle.xc_concepts.specs.Schemas.{text_at, top_name, restricted_type, restricted_element}
use Rattle.xc_elements.specs.Scopes.{space_in_scope}
use Rattle.xc_elements.specs.declared.nodes.Node.{Node}
use Rattle.xc_names.specs.Names.{name_of}
use Rattle.xc_chars.specs.PlainNames.{is_plain_name, split}
use Rattle.xc_names.specs.declared.expanded.Expanded.{Expanded}

-- a text that names a type, at a node
pub record Reference : Type 0 where
  pub at : ℕ
  pub text : List ℕ

-- a reference at this node, with this text
abbrev pub make_reference : ℕ → List ℕ → Reference
make_reference at text = record { at = at; text = text }

-- the name of a prefix in scope and a local part
abbrev pub prefixed_name : List Node → ℕ → List ℕ × List ℕ → Option Expanded
prefixed_name nodes at parts = option_map (λ space. name_of space parts.1) (space_in_scope nodes at parts.0)

-- the default namespace at a node, or none
abbrev pub default_space : List Node → ℕ → List ℕ
default_space nodes at = unwrap_or (space_in_scope nodes at []) []

-- the expanded name of a text at a node. One without a colon has the default namespace, or none: XML Schema 1.0, part 1, section 3.15.3
abbrev pub type_name : List Node → Reference → Option Expanded
type_name nodes r =
    if is_plain_name r.text then Some (name_of (default_space nodes r.at) r.text)
    else option_and_then (prefixed_name nodes r.at) (split r.text)

-- the `base` of the restriction at a place, where it restricts the content of this element; `restricted` says whose content a restriction restricts
abbrev pub base_of_restriction : List Node → (ℕ → Option ℕ) → ℕ → ℕ → Option Reference
base_of_restriction nodes restricted element at = if is_place element (restricted at) then option_map (make_reference at) (text_at nodes at (codes "base")) else None

-- the first of them in the order of the document
abbrev pub first_base : List Node → (ℕ → Option ℕ) → ℕ → Option Reference
first_base nodes restricted element = first_given (base_of_restriction nodes restricted element) (places nodes)

-- what names the base of an `xs:complexType`: the first `base` at the path `xs:simpleContent`, `xs:restriction` below it
abbrev pub base_of_type : List Node → ℕ → Option Reference
base_of_type nodes at = first_base nodes (restricted_type nodes) at

-- what names the type of an `xs:element`: its `type`, or else the first `base` at the path `xs:complexType`, `xs:simpleContent`, `xs:restriction` below it
abbrev pub type_of_element : List Node → ℕ → Option Reference
type_of_element nodes at = option_or (option_map (make_reference at) (text_at nodes at (codes "type"))) (first_base nodes (restricted_element nodes) at)

-- what is judged of a node: what names the type of a concept, or the base of a type that has a name
abbrev pub judged_at : List Node → ℕ → Option Reference
judged_at nodes at =
    if is_some (top_name nodes (codes "element") at) then type_of_element nodes at
    else if is_some (top_name nodes (codes "complexType") at) then base_of_type nodes at
    else None
