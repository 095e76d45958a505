-- The rules that a schema is held to, and the first that it breaks.
use Rattle.std.specs.Prelude.{◌==◌, ℕ, Bool, List, [], map, filter_map, Option, Some, None, option_map, option_and_then, is_some, codes, if◌then◌else◌}
use Rattle.std.specs.List.{list_any}
use Rattle.std.specs.Str.{bytes_eq}
use Rattle.xc_concepts.specs.Declarations.{declared_at, concepts_in}
use Rattle.xc_lists.specs.Places.{places, first_given, is_repeated}
use Rattle.xc_concepts.specs.References.{type_name, judged_at}
use Rattle.xc_concepts.specs.Schemas.{text_at}
use Rattle.xc_concepts.specs.declared.fault.SchemaFault.{SchemaFault}
use Rattle.xc_concepts.specs.declared.fault.SchemaFault.TheVariants.{SameFile, BadPrefix, SameId, SameConcept}
use Rattle.xc_concepts.specs.declared.schema.Schema.{Schema}
use Rattle.xc_elements.specs.declared.nodes.Node.{Node}
use Rattle.xc_names.specs.Names.{is_named}
use Rattle.xc_names.specs.declared.expanded.Expanded.{Expanded}

-- a file of this name was added
abbrev pub has_file : List Schema → List ℕ → Bool
has_file schemas file = list_any (λ s. bytes_eq file s.file) schemas

-- the place of what is judged of a node, where it names no type
abbrev pub nameless_at : List Node → ℕ → Option ℕ
nameless_at nodes at = option_and_then (λ r. if is_some (type_name nodes r) then None else Some r.at) (judged_at nodes at)

-- the node has a `type` or `base` that is judged and names no type
abbrev pub is_nameless : List Node → ℕ → Bool
is_nameless nodes at = list_any (λ place. place == at) (filter_map (nameless_at nodes) (places nodes))

-- the `id` of a node
abbrev pub id_at : List Node → ℕ → Option (List ℕ)
id_at nodes at = text_at nodes at (codes "id")

-- an earlier element of the document has the same `id`: XML 1.0, section 3.3.1
abbrev pub repeats_id : List Node → ℕ → Bool
repeats_id nodes at = is_repeated bytes_eq [] (id_at nodes) at

-- names are equal where both parts are
abbrev pub is_same_name : Expanded → Expanded → Bool
is_same_name a b = is_named a.space a.local b

-- the concept's name was declared before, in another schema or at an earlier node: XML Schema 1.0, part 1, section 3.15.6
abbrev pub repeats_concept : List Schema → List Node → ℕ → Bool
repeats_concept schemas nodes at = is_repeated is_same_name (map (λ c. c.declared.name) (concepts_in schemas)) (λ k. option_map (λ d. d.name) (declared_at nodes k)) at

-- the first rule that a node breaks
abbrev pub broken_at : List Schema → List Node → ℕ → Option SchemaFault
broken_at schemas nodes at =
    if is_nameless nodes at then Some (BadPrefix at)
    else if repeats_id nodes at then Some (SameId at)
    else if repeats_concept schemas nodes at then Some (SameConcept at)
    else None

-- the first rule that a schema breaks: the file's, and then those of its nodes in the order of the document
abbrev pub first_broken : List Schema → List ℕ → List Node → Option SchemaFault
first_broken schemas file nodes = if has_file schemas file then Some SameFile else first_given (broken_at schemas nodes) (places nodes)
