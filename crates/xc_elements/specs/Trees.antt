-- Trees of elements.
use Rattle.std.specs.Prelude.{◌≡◌, ℕ, zero, suc, ◌<◌, ◌&&◌, ◌==◌, Bool, List, [], ◌∷◌, length, Option, Some, None, IsTrue, ◌↔◌, codes, find, slice_get, option_map, option_and_then}
use Rattle.std.specs.List.{list_any}
use Rattle.std.specs.Str.{bytes_eq}
use Rattle.xc_chars.specs.Trimmed.{trimmed}
use Rattle.xc_elements.specs.declared.nodes.Attribute.{Attribute}
use Rattle.xc_elements.specs.declared.nodes.Node.{Node}

-- ---- the form of a tree

-- the number of a node's parent
abbrev pub parent_of : List Node → ℕ → Option ℕ
parent_of nodes node = option_and_then (λ n. n.parent) (slice_get nodes node)

-- the number behind a node's last descendant
abbrev pub end_of : List Node → ℕ → Option ℕ
end_of nodes node = option_map (λ n. n.end) (slice_get nodes node)

-- a node, its parent, and so on towards the root: so many nodes at most
abbrev pub upward : List Node → ℕ → Option ℕ → List ℕ
upward nodes zero at = []
upward nodes (suc n) None = []
upward nodes (suc n) (Some at) = at ∷ upward nodes n (parent_of nodes at)

-- the path from a node to the root: it has no more nodes than the tree
abbrev pub path : List Node → ℕ → List ℕ
path nodes node = upward nodes (length nodes) (Some node)

-- the path to the root from the parent of a node
abbrev pub ancestors : List Node → ℕ → List ℕ
ancestors nodes node = upward nodes (length nodes) (parent_of nodes node)

-- the nodes are those of a tree, in the order of the document
pub record IsTree (nodes : List Node) : Type 0 where
  -- the first is the root
  pub root : (n : Node) × (slice_get nodes 0 ≡ Some n) × (n.parent ≡ None)
  -- the parent of every other is an earlier one
  pub parents : (k : ℕ) → suc k < length nodes → (p : ℕ) × (parent_of nodes (suc k) ≡ Some p) × (p < suc k)
  -- a node's descendants are exactly those after it and before its end
  pub descendants : (node k : ℕ) → k < length nodes → (end : ℕ) → end_of nodes node ≡ Some end → IsTrue (list_any (λ a. a == node) (ancestors nodes k)) ↔ ((node < k) × (k < end))

-- ---- names and attributes

-- the namespace of the prefix `xml`: Namespaces in XML 1.0, section 3
abbrev pub xml_space : List ℕ
xml_space = codes "http://www.w3.org/XML/1998/namespace"

-- the namespace of declarations of namespaces: Namespaces in XML 1.0, section 3
abbrev pub declarations_space : List ℕ
declarations_space = codes "http://www.w3.org/2000/xmlns/"

-- the element has this expanded name
abbrev pub is_element : List ℕ → List ℕ → Node → Bool
is_element space local node = bytes_eq node.space space && bytes_eq node.local local

-- the attribute has this expanded name
abbrev pub is_named : List ℕ → List ℕ → Attribute → Bool
is_named space local attribute = bytes_eq attribute.space space && bytes_eq attribute.local local

-- the value of the attribute with an expanded name
abbrev pub value_among : List Attribute → List ℕ → List ℕ → Option (List ℕ)
value_among attributes space local = option_map (λ a. a.value) (find (is_named space local) attributes)

-- the value of a node's attribute with an expanded name
abbrev pub attribute_of : List Node → ℕ → List ℕ → List ℕ → Option (List ℕ)
attribute_of nodes node space local = option_and_then (λ n. value_among n.attributes space local) (slice_get nodes node)

-- the same without the white space around it
abbrev pub trimmed_attribute : List Node → ℕ → List ℕ → List ℕ → Option (List ℕ)
trimmed_attribute nodes node space local = option_map trimmed (attribute_of nodes node space local)
