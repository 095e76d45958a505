-- Namespaces in XML 1.0, as declarations on the path from the root.
use Rattle.std.specs.Prelude.{ℕ, ◌&&◌, ◌||◌, Bool, false, List, [], ◌∷◌, ◌++◌, map, reverse, Option, Some, None, is_none, is_some, codes, find, option_map, option_and_then, unwrap_or, encode_utf8_all, if◌then◌else◌}
use Rattle.std.specs.List.{filter_map, list_any}
use Rattle.std.specs.Str.{bytes_eq}
use Rattle.xc_elements.specs.Items.{Name, Pair, is_nil, spells}
use Rattle.xc_elements.specs.Scopes.{not_empty}
use Rattle.xc_elements.specs.Trees.{xml_space, declarations_space, value_among}
use Rattle.xc_elements.specs.declared.nodes.Attribute.{Attribute}
use Rattle.xc_elements.specs.declared.nodes.NamespaceDeclaration.{NamespaceDeclaration}

-- an attribute as it is given: its name as it is written, and its value in UTF-8
pub record Given : Type 0 where
  pub name : Name
  pub value : List ℕ

-- a start tag or an empty tag
pub record Tag : Type 0 where
  pub name : Name
  pub attributes : List Given

-- an attribute as it is written, with its value in bytes
abbrev pub given_of : Pair → Given
given_of pair = record { name = pair.name; value = encode_utf8_all pair.value }

-- the tag of a name and its attributes
abbrev pub tag_of : Name → List Pair → Tag
tag_of name pairs = record { name = name; attributes = map given_of pairs }

-- ---- declarations

-- the name is of the form `xmlns:p`, which declares the prefix p: section 3
abbrev pub declares_prefix : Name → Bool
declares_prefix name = spells name.prefix (codes "xmlns")

-- the name is `xmlns`, which declares the default namespace: section 3
abbrev pub declares_default : Name → Bool
declares_default name = is_nil name.prefix && spells name.local (codes "xmlns")

-- a prefix, or the empty one for the default, and the namespace that it is set to
pub record Binding : Type 0 where
  pub prefix : List ℕ
  pub space : List ℕ

-- the prefix that an attribute of this name declares
abbrev pub declared_prefix : Name → Option (List ℕ)
declared_prefix name = if declares_prefix name then Some name.local else if declares_default name then Some [] else None

-- what an attribute declares
abbrev pub binding_of : Given → Option Binding
binding_of g = option_map (λ prefix. record { prefix = prefix; space = g.value }) (declared_prefix g.name)

-- a declaration as a tree keeps it, by the UTF-8 of its prefix
abbrev pub declaration_of : Binding → NamespaceDeclaration
declaration_of b = record { prefix = encode_utf8_all b.prefix; space = b.space }

-- what a tag declares itself, as a tree keeps it: the last first
abbrev pub declared_by : Tag → List NamespaceDeclaration
declared_by tag = map declaration_of (reverse (filter_map binding_of tag.attributes))

-- all that is declared by tags, of which each is inside the next: the nearest first
abbrev pub declarations : List Tag → List Binding
declarations [] = []
declarations (tag ∷ outer) = reverse (filter_map binding_of tag.attributes) ++ declarations outer

-- what the nearest declaration of a prefix sets it to
abbrev pub nearest : List Binding → List ℕ → Option (List ℕ)
nearest bindings prefix = option_map (λ b. b.space) (find (λ b. bytes_eq b.prefix prefix) bindings)

-- the namespace of a prefix under these declarations: sections 3 and 6.1; the prefix `xml` needs none, and the prefix `xmlns` is for declarations alone
abbrev pub space_under : List Binding → List ℕ → Option (List ℕ)
space_under bindings prefix =
    if spells prefix (codes "xml") then Some xml_space
    else if spells prefix (codes "xmlns") then None
    else option_and_then not_empty (nearest bindings prefix)

-- ---- expanded names

-- the namespace of an element's name; without prefix it is the default one, or none: section 6.2
abbrev pub element_space : List Binding → Name → Option (List ℕ)
element_space bindings name =
    if is_nil name.prefix then Some (unwrap_or (space_under bindings []) [])
    else space_under bindings name.prefix

-- the namespace of an attribute's name; without prefix it has none, if it is no declaration: section 6.2
abbrev pub attribute_space : List Binding → Name → Option (List ℕ)
attribute_space bindings name =
    if declares_prefix name then Some declarations_space
    else if declares_default name then Some declarations_space
    else if is_nil name.prefix then Some []
    else space_under bindings name.prefix

-- the local part of an attribute's name; that of the default's declaration is empty
abbrev pub attribute_local : Name → List ℕ
attribute_local name = if declares_default name then [] else encode_utf8_all name.local

-- an attribute by its expanded name
abbrev pub expand : List Binding → Given → Attribute
expand bindings g = record { space = unwrap_or (attribute_space bindings g.name) []; local = attribute_local g.name; value = g.value }

-- ---- what the standard forbids

-- the prefix of an attribute's name is not declared: section 5; or it declares a prefix and is empty: section 2.2
abbrev pub lacks_space : List Binding → Given → Bool
lacks_space bindings g = is_none (attribute_space bindings g.name) || (declares_prefix g.name && is_nil g.value)

-- a prefix in a tag is not declared, or a prefix is declared and empty
abbrev pub tag_lacks_space : List Binding → Tag → Bool
tag_lacks_space bindings tag = is_none (element_space bindings tag.name) || list_any (lacks_space bindings) tag.attributes

-- two of the attributes have one expanded name: section 6.3
abbrev pub has_double : List Attribute → Bool
has_double [] = false
has_double (a ∷ others) = is_some (value_among others a.space a.local) || has_double others
