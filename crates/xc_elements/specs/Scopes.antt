-- The namespace of a prefix at a node: Namespaces in XML 1.0, sections 3, 6.1 and 6.2.
use Rattle.std.specs.Prelude.{ℕ, List, [], ◌∷◌, Option, Some, None, codes, slice_get, option_and_then, if◌then◌else◌}
use Rattle.std.specs.Option.{option_or}
use Rattle.std.specs.Str.{bytes_eq}
use Rattle.xc_elements.specs.Declarations.{set_by}
use Rattle.xc_elements.specs.Trees.{xml_space, path}
use Rattle.xc_elements.specs.declared.nodes.Node.{Node}

-- what a node sets a prefix to: section 3
abbrev pub set_at : List Node → ℕ → List ℕ → Option (List ℕ)
set_at nodes node prefix = option_and_then (λ n. set_by n.declared prefix) (slice_get nodes node)

-- what the first of these nodes that declares a prefix sets it to: section 6.1
abbrev pub first_declared : List Node → List ℕ → List ℕ → Option (List ℕ)
first_declared nodes [] prefix = None
first_declared nodes (k ∷ ks) prefix = option_or (set_at nodes k prefix) (first_declared nodes ks prefix)

-- an empty value clears what is declared: section 6.2
abbrev pub not_empty : List ℕ → Option (List ℕ)
not_empty [] = None
not_empty (c ∷ cs) = Some (c ∷ cs)

-- the namespace of a prefix at a node, and with the empty prefix the default one: the nearest element at or above the node that declares the prefix decides; the prefix `xml` needs no declaration, and the prefix `xmlns` is for declarations alone: sections 3, 6.1 and 6.2
abbrev pub space_in_scope : List Node → ℕ → List ℕ → Option (List ℕ)
space_in_scope nodes node prefix =
    if bytes_eq prefix (codes "xml") then Some xml_space
    else if bytes_eq prefix (codes "xmlns") then None
    else option_and_then not_empty (first_declared nodes (path nodes node) prefix)
