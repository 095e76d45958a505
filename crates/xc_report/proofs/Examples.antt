-- The definitions of whole reports on worked units, periods, dimensions and facts.
use Rattle.std.specs.Prelude.{◌≡◌, ℕ, List, [], ◌∷◌, true, false, Some, None, Ok, Err, codes, refl}
use Rattle.std.proofs.Common.{rules}
use Rattle.std.specs.FinMap.{get, gets}
use Rattle.std.specs.Str.{chars}
use Rattle.xc_chars.specs.Characters.{is_name_start, is_name_char}
use Rattle.serde_json.specs.Data.{Data, null, boolean, string, object, Members, no_members, member}
use Rattle.xc_names.specs.Names.{name_of}
use Rattle.xc_names.specs.Prefixes.{Bindings}
use Rattle.xc_names.specs.declared.expanded.Expanded.{Expanded}
use Rattle.xc_report.specs.Dimensions.{in_order, is_same_key, distinct, key_number}
use Rattle.xc_report.specs.Opened.{declared_by}
use Rattle.xc_report.specs.Periods.{normal_period}
use Rattle.xc_report.specs.Stated.{part, part_of, parts_of}
use Rattle.xc_report.specs.StatedFacts.{stated_fact, stated_facts}
use Rattle.xc_report.specs.Units.{unit}
use Rattle.xc_report.specs.Wanted.{Known}
use Rattle.xc_report.specs.declared.dimensions.Dimension.{Dimension}
use Rattle.xc_report.specs.declared.dimensions.Dimension.TheVariants as numbered
use Rattle.xc_report.specs.declared.dimensions.DimValue.{DimValue}
use Rattle.xc_report.specs.declared.dimensions.DimValue.TheVariants as given
use Rattle.xc_report.specs.declared.reports.ReportFault.TheVariants as fault
use Rattle.xc_report.specs.declared.stated.DimensionName.TheVariants as dimension
use Rattle.xc_report.specs.declared.stated.StatedValue.TheVariants as value

-- ---- periods

day : normal_period (codes "2024-01-01") ≡ codes "2024-01-01T00:00:00"
day = refl

no_day_of_a_calendar : normal_period (codes "2024-13-45") ≡ codes "2024-13-45T00:00:00"
no_day_of_a_calendar = refl

day_and_time : normal_period (codes "2024-01-01/2025-01-01T00:00:00") ≡ codes "2024-01-01T00:00:00/2025-01-01T00:00:00"
day_and_time = refl

two_slashes : normal_period (codes "2024-01-01/2024-01-02/2024-01-03") ≡ codes "2024-01-01/2024-01-02/2024-01-03"
two_slashes = refl

-- ---- units

-- eg and h stand for one namespace, x for that of XBRL 2.1
abbrev namespaces : Members
namespaces = member (codes "eg") (string (codes "u:t")) (member (codes "h") (string (codes "u:t")) (member (codes "x") (string (codes "http://www.xbrl.org/2003/instance")) no_members))

abbrev prefixes : Bindings
prefixes = declared_by namespaces

abbrev eg : List ℕ → Expanded
eg local = name_of (codes "u:t") local

eg_stands : get prefixes (codes "eg") ≡ Some (codes "u:t")
eg_stands = grind (gets, rules)

h_stands : get prefixes (codes "h") ≡ Some (codes "u:t")
h_stands = grind (gets, rules)

x_stands : get prefixes (codes "x") ≡ Some (codes "http://www.xbrl.org/2003/instance")
x_stands = grind (gets, rules)

g_stands_for_nothing : get prefixes (codes "g") ≡ None
g_stands_for_nothing = grind (gets, rules)

product_of_two : unit prefixes (codes "eg:a*h:b") ≡ Some (eg (codes "a") ∷ eg (codes "b") ∷ [], [])
unfolding chars is_name_start is_name_char
product_of_two = rw (eg_stands, h_stands) refl

quotient : unit prefixes (codes "(eg:b*eg:a)/eg:c") ≡ Some (eg (codes "b") ∷ eg (codes "a") ∷ [], eg (codes "c") ∷ [])
unfolding chars is_name_start is_name_char
quotient = rw eg_stands refl

nothing_is_cancelled : unit prefixes (codes "(eg:a)/h:a") ≡ Some (eg (codes "a") ∷ [], eg (codes "a") ∷ [])
unfolding chars is_name_start is_name_char
nothing_is_cancelled = rw (eg_stands, h_stands) refl

product_over_a_side : unit prefixes (codes "eg:a*eg:b/eg:c") ≡ None
unfolding chars is_name_start is_name_char
product_over_a_side = refl

parentheses_alone : unit prefixes (codes "(eg:a*eg:b)") ≡ None
unfolding chars is_name_start is_name_char
parentheses_alone = refl

prefix_of_none : unit prefixes (codes "g:a") ≡ None
unfolding chars is_name_start is_name_char
prefix_of_none = rw g_stands_for_nothing refl

-- ---- dimensions

-- eg:T has the number 0 and is a node, eg:D has the number 1 and is typed
abbrev known : Known
known = record { prefixes = prefixes; names = eg (codes "T") ∷ eg (codes "D") ∷ []; nodes = record { 0 = 0 } ∷ []; typed = record { 0 = 1 } ∷ [] }

-- pure alone is no unit
pure_alone : part_of known (codes "unit", string (codes "x:pure")) ≡ Some None
unfolding chars is_name_start is_name_char
pure_alone = rw x_stands refl

entity_with_colons : part_of known (codes "entity", string (codes "eg:1:2")) ≡ Some (Some (part dimension.Entity (value.Pair (codes "u:t") (codes "1:2"))))
unfolding chars is_name_start is_name_char
entity_with_colons = rw eg_stands refl

name_of_a_member : part_of known (codes "eg:E", string (codes "h:m")) ≡ Some (Some (part (dimension.Taxonomy (eg (codes "E"))) (value.Name (eg (codes "m")))))
unfolding chars is_name_start is_name_char
name_of_a_member = rw (eg_stands, h_stands) refl

text_of_a_typed_one : part_of known (codes "h:D", string (codes "h:m")) ≡ Some (Some (part (dimension.Taxonomy (eg (codes "D"))) (value.Text (codes "h:m"))))
unfolding chars is_name_start is_name_char
text_of_a_typed_one = rw h_stands refl

no_other_null : part_of known (codes "language", null) ≡ None
no_other_null = refl

-- one dimension under two prefixes
one_dimension_twice : parts_of known (member (codes "eg:E") null (member (codes "h:E") null no_members)) ≡ None
unfolding chars is_name_start is_name_char
one_dimension_twice = rw (eg_stands, h_stands) refl

-- ---- the steps of a fact

-- a fact of eg:T with this value and this dimension beside
abbrev fact : Data → List ℕ → Data → Data
fact given_value name given_part = object (member (codes "dimensions") (object (member (codes "concept") (string (codes "eg:T")) (member name given_part no_members))) (member (codes "value") given_value no_members))

nil_with_a_bad_dimension : stated_fact known (codes "f", fact null (codes "other") null) ≡ Ok None
unfolding chars is_name_start is_name_char
nil_with_a_bad_dimension = rw eg_stands refl

dimension_before_text : stated_fact known (codes "f", fact (string (codes "ten")) (codes "other") null) ≡ Err (fault.BadName (codes "f"))
unfolding chars is_name_start is_name_char
dimension_before_text = rw eg_stands refl

type_before_dimension : stated_fact known (codes "f", fact (boolean true) (codes "other") null) ≡ Err (fault.BadValue (codes "f"))
unfolding chars is_name_start is_name_char
type_before_dimension = rw eg_stands refl

text_of_no_number : stated_fact known (codes "f", fact (string (codes "ten")) (codes "eg:E") null) ≡ Err (fault.BadValue (codes "f"))
unfolding chars is_name_start is_name_char
text_of_no_number = rw eg_stands (rw eg_stands refl)

-- nothing is read of a fact whose concept is no node but that concept
no_node : stated_fact known (codes "f", object (member (codes "dimensions") (object (member (codes "concept") (string (codes "eg:X")) (member (codes "other") null no_members))) no_members)) ≡ Ok None
unfolding chars is_name_start is_name_char
no_node = rw eg_stands refl

-- the fault of the first id goes before an earlier step of a later one
first_id : stated_facts known (member (codes "B") (fact (boolean true) (codes "eg:E") null) (member (codes "a") null no_members)) ≡ Err (fault.BadValue (codes "B"))
unfolding chars is_name_start is_name_char
first_id = rw eg_stands refl

-- ---- keys

-- parts stand in the order of their dimensions, and equal keys have one number
ascending_parts : in_order ((numbered.Taxonomy (record { 0 = 4 }), given.Null) ∷ (numbered.Period, given.Text (codes "p")) ∷ (numbered.Taxonomy (record { 0 = 2 }), given.Null) ∷ [])
    ≡ (numbered.Period, given.Text (codes "p")) ∷ (numbered.Taxonomy (record { 0 = 2 }), given.Null) ∷ (numbered.Taxonomy (record { 0 = 4 }), given.Null) ∷ []
ascending_parts = refl

abbrev of_text : List ℕ → List (Dimension × DimValue)
of_text text = (numbered.Period, given.Text text) ∷ []

each_key_once : distinct (of_text (codes "p") ∷ of_text (codes "q") ∷ of_text (codes "p") ∷ []) ≡ of_text (codes "p") ∷ of_text (codes "q") ∷ []
each_key_once = refl

number_of_a_key : key_number (of_text (codes "p") ∷ of_text (codes "q") ∷ []) (of_text (codes "q")) ≡ 1
number_of_a_key = refl

null_is_no_text : is_same_key ((numbered.Language, given.Null) ∷ []) ((numbered.Language, given.Text []) ∷ []) ≡ false
null_is_no_text = refl
