-- The elements of a schema document: XML Schema 1.0, part 1, and XBRL 2.1, section 5.1.
use Rattle.std.specs.Prelude.{◌&&◌, ℕ, Bool, false, List, [], codes, Option, None, option_and_then, unwrap_or, slice_get, if◌then◌else◌}
use Rattle.std.specs.Option.{option_map_or}
use Rattle.xc_lists.specs.Places.{is_place}
use Rattle.xc_elements.specs.Trees.{is_element, parent_of, attribute_of, trimmed_attribute}
use Rattle.xc_elements.specs.declared.nodes.Node.{Node}

-- the namespace of XML Schema
abbrev pub schema_space : List ℕ
schema_space = codes "http://www.w3.org/2001/XMLSchema"

-- the namespace of XBRL instances: XBRL 2.1, section 4
abbrev pub instance_space : List ℕ
instance_space = codes "http://www.xbrl.org/2003/instance"

-- the namespace of dimensions: XBRL Dimensions 1.0, section 1.5
abbrev pub dimensions_space : List ℕ
dimensions_space = codes "http://xbrl.org/2005/xbrldt"

-- the node is this element of XML Schema
abbrev pub is_schema_node : List ℕ → Node → Bool
is_schema_node local node = is_element schema_space local node

-- the node at this place is this element of XML Schema
abbrev pub is_schema_element : List Node → List ℕ → ℕ → Bool
is_schema_element nodes local at = option_map_or (is_schema_node local) (slice_get nodes at) false

-- the document is a schema: its root is `xs:schema`
abbrev pub is_schema : List Node → Bool
is_schema nodes = is_schema_element nodes (codes "schema") 0

-- the value of an attribute without namespace, without the white space around it
abbrev pub text_at : List Node → ℕ → List ℕ → Option (List ℕ)
text_at nodes at local = trimmed_attribute nodes at [] local

-- the node is this element of XML Schema, and a child of the root
abbrev pub is_top : List Node → List ℕ → ℕ → Bool
is_top nodes local at = is_schema_element nodes local at && is_place 0 (parent_of nodes at)

-- the name of a child of the root that is this element
abbrev pub top_name : List Node → List ℕ → ℕ → Option (List ℕ)
top_name nodes local at = if is_top nodes local at then text_at nodes at (codes "name") else None

-- the namespace of what a schema declares: the root's `targetNamespace`, or none
abbrev pub target_space : List Node → List ℕ
target_space nodes = unwrap_or (attribute_of nodes 0 [] (codes "targetNamespace")) []

-- the parent of the node, where the node is this element of XML Schema
abbrev pub element_around : List Node → List ℕ → ℕ → Option ℕ
element_around nodes local at = if is_schema_element nodes local at then parent_of nodes at else None

-- the node around the `xs:simpleContent` around this `xs:restriction`: the type that the restriction makes
abbrev pub restricted_type : List Node → ℕ → Option ℕ
restricted_type nodes at = option_and_then (element_around nodes (codes "simpleContent")) (element_around nodes (codes "restriction") at)

-- the node around that one, where it is an `xs:complexType`: the element that has such a type of its own
abbrev pub restricted_element : List Node → ℕ → Option ℕ
restricted_element nodes at = option_and_then (element_around nodes (codes "complexType")) (restricted_type nodes at)
