-- The rules that the chosen arc elements of a linkbase are held to, and the first that one breaks.
use Rattle.std.specs.Prelude.{◌++◌, ℕ, List, [], ◌∷◌, Option, Some, None, if◌then◌else◌}
use Rattle.std.specs.Option.{option_or, option_map_or}
use Rattle.xc_calc.specs.Attributes.{weight_at, is_zero, order_at, priority_at, use_at}
use Rattle.xc_calc.specs.Ends.{concept_named_at, sources, targets}
use Rattle.xc_calc.specs.Linkbases.{is_chosen}
use Rattle.xc_calc.specs.declared.arc.ArcKind.{ArcKind}
use Rattle.xc_calc.specs.declared.fault.LinkFault.{LinkFault}
use Rattle.xc_calc.specs.declared.fault.LinkFault.TheVariants.{BadWeight, ZeroWeight, BadOrder, BadPriority, BadUse, NoLocator, Unresolved, UnknownType, NodeNotDecimal}
use Rattle.xc_concepts.specs.Chains.{kind_of}
use Rattle.xc_lists.specs.Places.{places, first_given}
use Rattle.xc_concepts.specs.declared.kind.Kind.{Kind}
use Rattle.xc_concepts.specs.declared.kind.Kind.TheVariants.{Decimal, Other, Unknown}
use Rattle.xc_concepts.specs.declared.schema.Schema.{Schema}
use Rattle.xc_decimal.specs.Shortest.{Shortest}
use Rattle.xc_elements.specs.declared.nodes.Node.{Node}

-- a weight has to be there, and must not be 0: XBRL 2.1, section 5.2.5.2
abbrev pub weight_fault : ℕ → Option Shortest → Option LinkFault
weight_fault at None = Some (BadWeight at)
weight_fault at (Some weight) = if is_zero weight then Some (ZeroWeight at) else None

-- what is not there is a fault
abbrev pub missing : {X : Type 0} → LinkFault → Option X → Option LinkFault
missing fault None = Some fault
missing fault (Some x) = None

-- an end without locators is a fault: XBRL 2.1, section 3.5.3.9
abbrev pub end_fault : ℕ → List ℕ → Option LinkFault
end_fault at [] = Some (NoLocator at)
end_fault at (locator ∷ more) = None

-- a concept has to be decimal: Calculations 1.1, and XBRL 2.1, section 5.2.5.2
abbrev pub kind_fault : ℕ → Kind → Option LinkFault
kind_fault at Decimal = None
kind_fault at Other = Some (NodeNotDecimal at)
kind_fault at Unknown = Some (UnknownType at)

-- the first rule that a locator breaks
abbrev pub locator_fault : List Schema → List Node → ℕ → Option LinkFault
locator_fault schemas nodes at = option_map_or (λ concept. kind_fault at (kind_of schemas concept.0)) (concept_named_at schemas nodes at) (Some (Unresolved at))

-- the first rule that an arc element breaks by its attributes
abbrev pub attribute_fault : List Node → ℕ → Option LinkFault
attribute_fault nodes at =
    option_or (weight_fault at (weight_at nodes at))
    (option_or (missing (BadOrder at) (order_at nodes at))
    (option_or (missing (BadPriority at) (priority_at nodes at))
    (missing (BadUse at) (use_at nodes at))))

-- and by its ends
abbrev pub ends_fault : List Node → ℕ → Option LinkFault
ends_fault nodes at = option_or (end_fault at (sources nodes at)) (end_fault at (targets nodes at))

-- the first rule that the locators of an arc element break: those of its source locators, and then those of its target locators
abbrev pub locators_fault : List Schema → List Node → ℕ → Option LinkFault
locators_fault schemas nodes at = first_given (locator_fault schemas nodes) (sources nodes at ++ targets nodes at)

-- the first rule that a chosen arc element breaks: by its attributes, by its ends, and then by their locators
abbrev pub arc_fault : List Schema → List Node → ℕ → Option LinkFault
arc_fault schemas nodes at = option_or (attribute_fault nodes at) (option_or (ends_fault nodes at) (locators_fault schemas nodes at))

-- the first rule that a node breaks, which only a chosen arc element does
abbrev pub broken_at : ArcKind → List Schema → List Node → ℕ → Option LinkFault
broken_at kind schemas nodes at = if is_chosen kind nodes at then arc_fault schemas nodes at else None

-- the first rule that a linkbase breaks, its arc elements taken in the order of the document
abbrev pub first_broken : ArcKind → List Schema → List Node → Option LinkFault
first_broken kind schemas nodes = first_given (broken_at kind schemas nodes) (places nodes)
