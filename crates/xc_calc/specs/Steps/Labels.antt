-- A step of the code: the locators of a linkbase by link and label. No public clause cites it.
use Rattle.std.specs.Prelude.{◌≡◌, ◌&&◌, ℕ, Bool, List, Vec, codes, filter, length, Option, Some, None, is_some, if◌then◌else◌}
use Rattle.std.specs.BTreeMap.{BTreeMap}
use Rattle.std.specs.Cmp.Lexicographic.{slice_cmp}
use Rattle.std.specs.Ordering.{nat_cmp, ordering_then}
use Rattle.std.specs.declared.cmp.Ordering.{Ordering}
use Rattle.xc_calc.specs.Linkbases.{is_link_element, is_locator, xlink_at}
use Rattle.xc_calc.specs.Steps.{list_of}
use Rattle.xc_calc.specs.declared.locators.Labelled.{Labelled}
use Rattle.xc_calc.specs.declared.locators.Locators.{Locators}
use Rattle.xc_elements.specs.Trees.{parent_of}
use Rattle.xc_elements.specs.declared.nodes.Node.{Node}
use Rattle.xc_lists.specs.Places.{before}

-- a link and a label, without where the label is lent from
abbrev pub labelled_view : Labelled → ℕ × List ℕ
labelled_view key = (key.link, key.label.now)

-- by link, and then by label as bytes
abbrev pub by_label : Labelled → Labelled → Ordering
by_label a b = ordering_then (nat_cmp a.link b.link) (slice_cmp nat_cmp a.label.now b.label.now)

-- the node is a locator of some element, and has an href
abbrev pub is_linked_locator : List Node → ℕ → Bool
is_linked_locator nodes at = is_link_element nodes (codes "loc") at && is_some (xlink_at nodes at (codes "href"))

-- a link with a label, where there are both
abbrev pub both : Option ℕ → Option (List ℕ) → Option (ℕ × List ℕ)
both None label = None
both (Some link) None = None
both (Some link) (Some label) = Some (link, label)

-- the link and the label of a node that is a locator
abbrev pub labelled_at : List Node → ℕ → Option (ℕ × List ℕ)
labelled_at nodes at = if is_linked_locator nodes at then both (parent_of nodes at) (xlink_at nodes at (codes "label")) else None

-- each list has the locators of its link with its label before a node, in their order
abbrev pub AreLabelled : {Y : Type 0} → BTreeMap Labelled (Vec ℕ Y) → List Node → ℕ → Type 0
AreLabelled lists nodes n = (key : Labelled) → list_of by_label lists key ≡ filter (is_locator nodes key.link key.label.now) (before n)

-- and of the whole document
abbrev pub AreLocators : Locators → List Node → Type 0
AreLocators found nodes = AreLabelled found.lists nodes (length nodes)
