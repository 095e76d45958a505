-- The arcs of linkbases, in reading order: XBRL 2.1, sections 3.5.3.9 and 5.2.5.2.
use Rattle.std.specs.Prelude.{◌++◌, ℕ, ℤ, List, [], map, flat_map, filter_map, Option, option_map, option_and_then, if◌then◌else◌}
use Rattle.std.specs.Option.{option_map_or}
use Rattle.xc_calc.specs.Attributes.{weight_at, order_at, priority_at, use_at, others_at}
use Rattle.xc_calc.specs.Ends.{concept_named_at, sources, targets}
use Rattle.xc_calc.specs.Linkbases.{is_chosen, role_at}
use Rattle.xc_calc.specs.declared.arc.ArcKind.{ArcKind}
use Rattle.xc_calc.specs.declared.arc.ListedArc.{ListedArc}
use Rattle.xc_calc.specs.declared.arc.Use.{Use}
use Rattle.xc_lists.specs.Places.{places}
use Rattle.xc_concepts.specs.declared.schema.Schema.{Schema}
use Rattle.xc_decimal.specs.Shortest.{Shortest}
use Rattle.xc_elements.specs.Trees.{parent_of}
use Rattle.xc_elements.specs.declared.nodes.Attribute.{Attribute}
use Rattle.xc_elements.specs.declared.nodes.Node.{Node}
use Rattle.xc_names.specs.declared.expanded.NameId.{NameId}

-- which arcs are chosen, and the arcs of the linkbases so far
pub record Linked : Type 0 where
  pub kind : ArcKind
  pub arcs : List ListedArc

-- no arcs
abbrev pub empty_of : ArcKind → Linked
empty_of kind = record { kind = kind; arcs = [] }

-- with more arcs at the end
abbrev pub with_arcs : Linked → List ListedArc → Linked
with_arcs linked more = record { kind = linked.kind; arcs = linked.arcs ++ more }

-- what an arc element says of each of its arcs
pub record Drawn : Type 0 where
  pub role : List ℕ
  pub weight : Shortest
  pub order : Shortest
  pub others : List Attribute
  pub priority : ℤ
  pub usage : Use

-- the role of the extended link around an arc element
abbrev pub role_around : List Node → ℕ → List ℕ
role_around nodes at = option_map_or (role_at nodes) (parent_of nodes at) []

-- what an arc element says, by its place and its attributes
abbrev pub drawn_as : List Node → ℕ → Shortest → Shortest → ℤ → Use → Drawn
drawn_as nodes at weight order priority usage = record { role = role_around nodes at; weight = weight; order = order; others = others_at nodes at; priority = priority; usage = usage }

-- what the arc element at this place says, where its attributes are good
abbrev pub arc_element_at : List Node → ℕ → Option Drawn
arc_element_at nodes at =
    option_and_then (λ weight. option_and_then (λ order. option_and_then (λ priority. option_map (λ usage. drawn_as nodes at weight order priority usage) (use_at nodes at)) (priority_at nodes at)) (order_at nodes at)) (weight_at nodes at)

-- the arc of an arc element between two concepts
abbrev pub arc_between : Drawn → NameId → NameId → ListedArc
arc_between drawn from to = record {
  role = drawn.role;
  arc = record { from = from; to = to; weight = drawn.weight };
  order = drawn.order;
  others = drawn.others;
  priority = drawn.priority;
  usage = drawn.usage;
}

-- one arc for each source and each target, source by source
abbrev pub arcs_between : Drawn → List NameId → List NameId → List ListedArc
arcs_between drawn from to = flat_map (λ f. map (arc_between drawn f) to) from

-- the concepts that locators name
abbrev pub concepts_at : List Schema → List Node → List ℕ → List NameId
concepts_at schemas nodes locators = filter_map (concept_named_at schemas nodes) locators

-- the arcs of the arc element at this place: one for each source locator and each target locator
abbrev pub arcs_of_element : List Schema → List Node → ℕ → List ListedArc
arcs_of_element schemas nodes at = option_map_or (λ drawn. arcs_between drawn (concepts_at schemas nodes (sources nodes at)) (concepts_at schemas nodes (targets nodes at))) (arc_element_at nodes at) []

-- the arcs of the node at this place, of which only a chosen arc element has any
abbrev pub arcs_at : ArcKind → List Schema → List Node → ℕ → List ListedArc
arcs_at kind schemas nodes at = if is_chosen kind nodes at then arcs_of_element schemas nodes at else []

-- the arcs of a linkbase in reading order: by arc element, then by source, then by target, each in the order of the document
abbrev pub arcs_in : ArcKind → List Schema → List Node → List ListedArc
arcs_in kind schemas nodes = flat_map (arcs_at kind schemas nodes) (places nodes)
