-- The dimensions that a fact states, by expanded names (xBRL-JSON 1.0, the `dimensions` object).
use Rattle.std.specs.Prelude.{ℕ, ◌&&◌, ◌||◌, List, [], ◌∷◌, Bool, false, not, codes, is_some, Option, Some, None, option_map, option_and_then, if◌then◌else◌}
use Rattle.std.specs.List.{list_any, list_all, filter_map}
use Rattle.std.specs.Str.{bytes_eq}
use Rattle.serde_json.specs.Data.{Data, Members}
use Rattle.serde_json.specs.Find.{as_null, as_str}
use Rattle.xc_names.specs.Names.{is_named}
use Rattle.xc_names.specs.Prefixes.{Bindings}
use Rattle.xc_names.specs.declared.expanded.Expanded.{Expanded}
use Rattle.xc_report.specs.Json.{member_list}
use Rattle.xc_report.specs.Periods.{normal_period}
use Rattle.xc_report.specs.Prefixed.{expanded_name, expanded_loosely}
use Rattle.xc_report.specs.Units.{unit, is_pure_alone}
use Rattle.xc_report.specs.Wanted.{Known, is_typed}
use Rattle.xc_report.specs.declared.stated.DimensionName.{DimensionName}
use Rattle.xc_report.specs.declared.stated.DimensionName.TheVariants as dimension
use Rattle.xc_report.specs.declared.stated.StatedValue.{StatedValue}
use Rattle.xc_report.specs.declared.stated.StatedValue.TheVariants as value
use Rattle.xc_report.specs.declared.stated.StatedPart.{StatedPart}

-- a dimension with its value
abbrev pub part : DimensionName → StatedValue → StatedPart
part dimension value = record { dimension = dimension; value = value }

-- the scheme's URI and the identifier of an entity
abbrev pub entity_pair : Expanded → StatedValue
entity_pair name = value.Pair name.space name.local

-- an entity: a text with a declared prefix before its first colon
abbrev pub entity_value : Bindings → Data → Option StatedValue
entity_value prefixes d = option_map entity_pair (option_and_then (expanded_loosely prefixes) (as_str d))

-- a period: a text, in its normal form
abbrev pub period_value : Data → Option StatedValue
period_value d = option_map (λ text. value.Text (normal_period text)) (as_str d)

-- a language or a note's id: a text as it is
abbrev pub text_value : Data → Option StatedValue
text_value d = option_map (λ text. value.Text text) (as_str d)

-- the measures of a unit
abbrev pub measures_value : List Expanded × List Expanded → StatedValue
measures_value measures = value.Measures measures.0 measures.1

-- the value of a dimension that is no typed one: a name where the text has a declared prefix, else the text itself
abbrev pub named_value : List ℕ → Option Expanded → StatedValue
named_value text None = value.Text text
named_value text (Some name) = value.Name name

-- the value of a dimension of a taxonomy that is a text
abbrev pub member_value : Bindings → Bool → List ℕ → StatedValue
member_value prefixes typed text = if typed then value.Text text else named_value text (expanded_name prefixes text)

-- the value of a dimension of a taxonomy: null or a text
abbrev pub taxonomy_value : Bindings → Bool → Data → Option StatedValue
taxonomy_value prefixes typed d = if is_some (as_null d) then Some value.Null else option_map (member_value prefixes typed) (as_str d)

-- the part of the key that a dimension gives with its value
abbrev pub part_with : DimensionName → Option StatedValue → Option (Option StatedPart)
part_with dimension value = option_map (λ v. Some (part dimension v)) value

-- the part that a unit gives: none where it is `pure` alone
abbrev pub unit_kept : List Expanded × List Expanded → Option StatedPart
unit_kept measures = if is_pure_alone measures then None else Some (part dimension.Unit (measures_value measures))

-- the part that a unit gives, where it is a text of the grammar
abbrev pub unit_part : Bindings → Data → Option (Option StatedPart)
unit_part prefixes d = option_map unit_kept (option_and_then (unit prefixes) (as_str d))

-- the part that a dimension of a taxonomy gives, where its name has a declared prefix
abbrev pub taxonomy_part : Known → Data → Option Expanded → Option (Option StatedPart)
taxonomy_part known d None = None
taxonomy_part known d (Some name) = part_with (dimension.Taxonomy name) (taxonomy_value known.prefixes (is_typed known name) d)

-- the part of the key that a member of `dimensions` gives, where it is one that a fact may have: none for the concept
abbrev pub part_of : Known → List ℕ × Data → Option (Option StatedPart)
part_of known m =
    if bytes_eq m.0 (codes "concept") then Some None
    else if bytes_eq m.0 (codes "entity") then part_with dimension.Entity (entity_value known.prefixes m.1)
    else if bytes_eq m.0 (codes "period") then part_with dimension.Period (period_value m.1)
    else if bytes_eq m.0 (codes "unit") then unit_part known.prefixes m.1
    else if bytes_eq m.0 (codes "language") then part_with dimension.Language (text_value m.1)
    else if bytes_eq m.0 (codes "noteId") then part_with dimension.NoteId (text_value m.1)
    else taxonomy_part known m.1 (expanded_name known.prefixes m.0)

-- two dimensions of taxonomies with one expanded name
abbrev pub is_same_name : DimensionName → DimensionName → Bool
is_same_name (dimension.Taxonomy a) (dimension.Taxonomy b) = is_named a.space a.local b
is_same_name _ _ = false

-- a dimension stands twice
abbrev pub has_twice : List StatedPart → Bool
has_twice [] = false
has_twice (p ∷ ps) = list_any (λ q. is_same_name p.dimension q.dimension) ps || has_twice ps

-- each member of `dimensions` is one that a fact may have
abbrev pub are_parts : Known → Members → Bool
are_parts known members = list_all (λ m. is_some (part_of known m)) (member_list members)

-- what a member gives
abbrev pub given : Known → List ℕ × Data → Option StatedPart
given known m = option_and_then (λ p. p) (part_of known m)

-- the parts that the members give
abbrev pub given_parts : Known → Members → List StatedPart
given_parts known members = filter_map (given known) (member_list members)

-- the parts of a fact's key, where each member is a dimension that a fact may have and none stands twice
abbrev pub parts_of : Known → Members → Option (List StatedPart)
parts_of known members = if are_parts known members && not (has_twice (given_parts known members)) then Some (given_parts known members) else None
