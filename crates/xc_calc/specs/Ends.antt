-- The locators at the ends of an arc element, and the concepts that they name.
use Rattle.std.specs.Prelude.{ℕ, List, [], codes, filter, Option, option_map, option_and_then}
use Rattle.std.specs.Option.{option_map_or}
use Rattle.xc_calc.specs.Linkbases.{is_locator, xlink_at}
use Rattle.xc_chars.specs.Parts.{is_hash, around, file_name}
use Rattle.xc_concepts.specs.Held.{number_by_id}
use Rattle.xc_lists.specs.Places.{places}
use Rattle.xc_concepts.specs.declared.schema.Schema.{Schema}
use Rattle.xc_elements.specs.Trees.{parent_of}
use Rattle.xc_elements.specs.declared.nodes.Node.{Node}
use Rattle.xc_names.specs.declared.expanded.NameId.{NameId}

-- a number as that of a name
abbrev pub name_id : ℕ → NameId
name_id number = record { 0 = number }

-- the concept whose element has the id behind `#`, in the schema whose file has the name before it
abbrev pub concept_by : List Schema → List ℕ × List ℕ → Option NameId
concept_by schemas parts = option_map name_id (number_by_id schemas (file_name parts.0) parts.1)

-- the concept that an href names: XBRL 2.1, section 3.5.3.7; its fragment stands behind the first `#`: RFC 3986, section 3.5
abbrev pub concept_of_href : List Schema → List ℕ → Option NameId
concept_of_href schemas href = option_and_then (concept_by schemas) (around is_hash href)

-- the concept that a locator names
abbrev pub concept_named_at : List Schema → List Node → ℕ → Option NameId
concept_named_at schemas nodes at = option_and_then (concept_of_href schemas) (xlink_at nodes at (codes "href"))

-- the locators of an extended link with this label, in the order of the document
abbrev pub locators : List Node → ℕ → List ℕ → List ℕ
locators nodes link label = filter (is_locator nodes link label) (places nodes)

-- the locators of the extended link around an arc element that one of its ends names; none where the end is missing
abbrev pub end_of_link : List Node → Option (List ℕ) → ℕ → List ℕ
end_of_link nodes label link = option_map_or (locators nodes link) label []

-- the locators that an arc element names at one of its ends, `from` or `to`
abbrev pub end_at : List Node → ℕ → List ℕ → List ℕ
end_at nodes at local = option_map_or (end_of_link nodes (xlink_at nodes at local)) (parent_of nodes at) []

-- the source locators of an arc element: those whose label is its `xlink:from`
abbrev pub sources : List Node → ℕ → List ℕ
sources nodes at = end_at nodes at (codes "from")

-- the target locators: those whose label is its `xlink:to`
abbrev pub targets : List Node → ℕ → List ℕ
targets nodes at = end_at nodes at (codes "to")
