-- The elements of a linkbase document: XBRL 2.1, section 3.5.
use Rattle.std.specs.Prelude.{◌&&◌, ℕ, Bool, false, List, [], codes, Option, unwrap_or, is_some, slice_get}
use Rattle.std.specs.Option.{option_map_or}
use Rattle.std.specs.Str.{bytes_eq}
use Rattle.xc_calc.specs.declared.arc.ArcKind.{ArcKind}
use Rattle.xc_calc.specs.declared.arc.ArcKind.TheVariants.{New, Old}
use Rattle.xc_lists.specs.Places.{is_place}
use Rattle.xc_elements.specs.Trees.{is_element, parent_of, trimmed_attribute}
use Rattle.xc_elements.specs.declared.nodes.Node.{Node}

-- the namespace of linkbases: XBRL 2.1, section 3.5
abbrev pub link_space : List ℕ
link_space = codes "http://www.xbrl.org/2003/linkbase"

-- the namespace of XLink 1.0
abbrev pub xlink_space : List ℕ
xlink_space = codes "http://www.w3.org/1999/xlink"

-- the node is this element of linkbases
abbrev pub is_link_node : List ℕ → Node → Bool
is_link_node local node = is_element link_space local node

-- the node at this place is this element of linkbases
abbrev pub is_link_element : List Node → List ℕ → ℕ → Bool
is_link_element nodes local at = option_map_or (is_link_node local) (slice_get nodes at) false

-- the document is a linkbase: its root is `link:linkbase`
abbrev pub is_linkbase : List Node → Bool
is_linkbase nodes = is_link_element nodes (codes "linkbase") 0

-- the node stands directly in this one
abbrev pub is_child : List Node → ℕ → ℕ → Bool
is_child nodes parent at = is_place parent (parent_of nodes at)

-- the value of an attribute of XLink, without the white space around it
abbrev pub xlink_at : List Node → ℕ → List ℕ → Option (List ℕ)
xlink_at nodes at local = trimmed_attribute nodes at xlink_space local

-- the value of an attribute without namespace, without the white space around it
abbrev pub plain_at : List Node → ℕ → List ℕ → Option (List ℕ)
plain_at nodes at local = trimmed_attribute nodes at [] local

-- the node is an extended link of calculations, a child of the root: XBRL 2.1, section 5.2.5
abbrev pub is_link : List Node → ℕ → Bool
is_link nodes at = is_link_element nodes (codes "calculationLink") at && is_child nodes 0 at

-- the role of an extended link, empty where it has none: XBRL 2.1, section 3.5.3
abbrev pub role_at : List Node → ℕ → List ℕ
role_at nodes link = unwrap_or (xlink_at nodes link (codes "role")) []

-- the arcrole of the arcs that are chosen: Calculations 1.1, or XBRL 2.1, section 5.2.5.2
abbrev pub chosen_arcrole : ArcKind → List ℕ
chosen_arcrole New = codes "https://xbrl.org/2023/arcrole/summation-item"
chosen_arcrole Old = codes "http://www.xbrl.org/2003/arcrole/summation-item"

-- the text is there, and is this one
abbrev pub is_text : List ℕ → Option (List ℕ) → Bool
is_text wanted text = option_map_or (λ x. bytes_eq x wanted) text false

-- the node stands directly in an extended link
abbrev pub is_in_link : List Node → ℕ → Bool
is_in_link nodes at = option_map_or (is_link nodes) (parent_of nodes at) false

-- the node is an arc element of an extended link: XBRL 2.1, section 5.2.5.2
abbrev pub is_arc : List Node → ℕ → Bool
is_arc nodes at = is_link_element nodes (codes "calculationArc") at && is_in_link nodes at

-- the node is an arc element with the chosen arcrole
abbrev pub is_chosen : ArcKind → List Node → ℕ → Bool
is_chosen kind nodes at = is_arc nodes at && is_text (chosen_arcrole kind) (xlink_at nodes at (codes "arcrole"))

-- the node is a locator of this extended link with this label, and has an href: XBRL 2.1, section 3.5.3.7
abbrev pub is_locator : List Node → ℕ → List ℕ → ℕ → Bool
is_locator nodes link label at =
    is_link_element nodes (codes "loc") at && is_child nodes link at
    && is_text label (xlink_at nodes at (codes "label")) && is_some (xlink_at nodes at (codes "href"))
