-- What private steps of the code say. No public clause cites them.
use Rattle.std.specs.Prelude.{◌≡◌, nat_lt, ℕ, List, Bool, false, Option, Some, None, if◌then◌else◌}
use Rattle.std.specs.Borrow.{Bor}
use Rattle.std.specs.List.{list_any}
use Rattle.std.specs.Option.{option_map_or}
use Rattle.std.specs.Str.{bytes_eq}
use Rattle.xc_concepts.specs.References.{Reference}
use Rattle.xc_concepts.specs.Schemas.{restricted_type, restricted_element}
use Rattle.xc_concepts.specs.declared.fault.SchemaFault.{SchemaFault}
use Rattle.xc_concepts.specs.declared.fault.SchemaFault.TheVariants.{BadPrefix, SameId, SameConcept}
use Rattle.xc_concepts.specs.declared.references.Restricted.{Restricted}
use Rattle.xc_concepts.specs.declared.references.Restricted.TheVariants.{AsType, AsElement}
use Rattle.xc_concepts.specs.declared.references.Reference as lent
use Rattle.xc_concepts.specs.declared.schema.Schema.{Schema}
use Rattle.xc_elements.specs.declared.nodes.Node.{Node}
use Rattle.xc_names.specs.Names.{is_named}
pub mod Ids
pub mod Kinds
pub mod Links

-- ---- lent texts

-- a lent text that names a type, at its node
abbrev pub reference_view : lent.Reference → Reference
reference_view r = record { at = r.at; text = r.text.now }

-- one of the lent texts is this one
abbrev pub has_text : List (Bor (List ℕ)) → List ℕ → Bool
has_text texts x = list_any (λ t. bytes_eq x t.now) texts

-- there is a lent text, and it is this one
abbrev pub is_text : List ℕ → Option (Bor (List ℕ)) → Bool
is_text x text = option_map_or (λ t. bytes_eq x t.now) text false

-- there is a text, and it is one of these
abbrev pub is_text_of : List (Bor (List ℕ)) → Option (Bor (List ℕ)) → Bool
is_text_of texts text = option_map_or (λ x. has_text texts x.now) text false

-- the lent texts are the texts of a list, in whatever order
abbrev pub AreTexts : List (Bor (List ℕ)) → List (List ℕ) → Type 0
AreTexts texts list = (x : List ℕ) → has_text texts x ≡ list_any (bytes_eq x) list

-- there is a local part, and one of the schemas has a concept with this name
abbrev pub is_concept_of : List Schema → List ℕ → Option (Bor (List ℕ)) → Bool
is_concept_of schemas space local = option_map_or (λ x. list_any (λ s. list_any (λ c. is_named space x.now c.declared.name) s.concepts) schemas) local false

-- ---- restrictions

-- the node whose content a restriction at a place restricts: a type, or an element
abbrev pub restricted_node : List Node → Restricted → ℕ → Option ℕ
restricted_node nodes AsType = restricted_type nodes
restricted_node nodes AsElement = restricted_element nodes

-- ---- the first of several faults

-- a fault with the number of its node
abbrev pub Broken : Type 0
Broken = ℕ × SchemaFault

-- the fault of a node for each rule
abbrev pub nameless_fault : ℕ → Broken
nameless_fault at = (at, BadPrefix at)

-- of an `id` that stands twice
abbrev pub id_fault : ℕ → Broken
id_fault at = (at, SameId at)

-- of a concept that is declared twice
abbrev pub concept_fault : ℕ → Broken
concept_fault at = (at, SameConcept at)

-- the first of two faults: the one of the earlier node, and at one node the first
abbrev pub earlier_fault : Option Broken → Option Broken → Option Broken
earlier_fault None other = other
earlier_fault (Some one) None = Some one
earlier_fault (Some one) (Some other) = if nat_lt other.0 one.0 then Some other else Some one
