-- The facts of a report by expanded names, or the first fault: the steps of reading a fact (xBRL-JSON 1.0, fact objects).
use Rattle.std.specs.Prelude.{ℕ, ℤ, List, [], ◌∷◌, codes, Option, Some, None, Result, Ok, Err, option_map, option_and_then, is_some, if◌then◌else◌}
use Rattle.std.specs.List.{filter_map}
use Rattle.xc_decimal.specs.Numbers.{reading}
use Rattle.xc_decimal.specs.Shortest.{Shortest}
use Rattle.xc_decimal.specs.declared.decimal.DecimalFault.{DecimalFault}
use Rattle.xc_decimal.specs.declared.decimal.DecimalFault.TheVariants as unread
use Rattle.xc_chars.specs.Trimmed.{trimmed}
use Rattle.serde_json.specs.Data.{Data, Members}
use Rattle.serde_json.specs.Find.{get, as_null, as_str, as_number, as_i64, as_object}
use Rattle.xc_names.specs.declared.expanded.Expanded.{Expanded}
use Rattle.xc_names.specs.declared.expanded.NameId.{NameId}
use Rattle.xc_names.specs.Prefixes.{Bindings}
use Rattle.xc_report.specs.Json.{member_list, text_at}
use Rattle.xc_report.specs.Prefixed.{expanded_name}
use Rattle.xc_report.specs.Stated.{parts_of}
use Rattle.xc_report.specs.Wanted.{Known, node_of}
use Rattle.xc_report.specs.declared.reports.Reading.{Reading}
use Rattle.xc_report.specs.declared.reports.Reading.TheVariants as read
use Rattle.xc_report.specs.declared.reports.ReportFault.{ReportFault}
use Rattle.xc_report.specs.declared.reports.ReportFault.TheVariants as fault
use Rattle.xc_report.specs.declared.stated.StatedFact.{StatedFact}
use Rattle.xc_report.specs.declared.stated.StatedPart.{StatedPart}

-- the dimensions of a fact
abbrev pub dimensions_of : Data → Option Data
dimensions_of fact = get (codes "dimensions") fact

-- the text that names a fact's concept
abbrev pub concept_text : Data → Option (List ℕ)
concept_text fact = option_and_then (text_at (codes "concept")) (dimensions_of fact)

-- the expanded name of a fact's concept: a prefix that is declared and a local part
abbrev pub concept_of : Bindings → Data → Option Expanded
concept_of prefixes fact = option_and_then (expanded_name prefixes) (concept_text fact)

-- null or a text
abbrev pub null_or_text : Data → Option (Option (List ℕ))
null_or_text d = if is_some (as_null d) then Some None else option_map Some (as_str d)

-- the value of a fact, null or a text
abbrev pub value_of : Data → Option (Option (List ℕ))
value_of fact = option_and_then null_or_text (get (codes "value") fact)

-- the parts of a fact's key
abbrev pub fact_parts : Known → Data → Option (List StatedPart)
fact_parts known fact = option_and_then (parts_of known) (option_and_then as_object (dimensions_of fact))

-- a decimal number, a wide one, or none
abbrev pub read_of : Result Shortest DecimalFault → Option Reading
read_of (Ok decimal) = Some (read.Number decimal)
read_of (Err unread.Wide) = Some read.Wide
read_of (Err unread.NotDecimal) = None

-- what a value says, white space around it left aside
abbrev pub value_read : List ℕ → Option Reading
value_read text = read_of (reading (trimmed text))

-- decimals that may be missing, and are else a whole number in the signed 64-bit range
abbrev pub whole_or_none : Option Data → Option (Option ℤ)
whole_or_none None = Some None
whole_or_none (Some decimals) = option_map Some (option_and_then as_i64 (as_number decimals))

-- the decimals of a fact
abbrev pub decimals_of : Data → Option (Option ℤ)
decimals_of fact = whole_or_none (get (codes "decimals") fact)

-- the sixth step: the decimals
abbrev pub with_decimals : List ℕ → NameId → List StatedPart → Reading → Option (Option ℤ) → Result (Option StatedFact) ReportFault
with_decimals id concept parts value None = Err (fault.BadDecimals id)
with_decimals id concept parts value (Some decimals) = Ok (Some (record { id = id; concept = concept; parts = parts; value = value; decimals = decimals }))

-- the fifth step: the text of the value
abbrev pub with_reading : List ℕ → Data → NameId → List StatedPart → Option Reading → Result (Option StatedFact) ReportFault
with_reading id fact concept parts None = Err (fault.BadValue id)
with_reading id fact concept parts (Some value) = with_decimals id concept parts value (decimals_of fact)

-- the fourth step: the dimensions
abbrev pub with_parts : List ℕ → Data → NameId → List ℕ → Option (List StatedPart) → Result (Option StatedFact) ReportFault
with_parts id fact concept text None = Err (fault.BadName id)
with_parts id fact concept text (Some parts) = with_reading id fact concept parts (value_read text)

-- the third step: a value, and whether it is null, so that the fact is left out
abbrev pub with_value : Known → List ℕ → Data → NameId → Option (Option (List ℕ)) → Result (Option StatedFact) ReportFault
with_value known id fact concept None = Err (fault.BadValue id)
with_value known id fact concept (Some None) = Ok None
with_value known id fact concept (Some (Some text)) = with_parts id fact concept text (fact_parts known fact)

-- the second step: whether the concept is a node; nothing more is read of a fact whose concept is none
abbrev pub with_node : Known → List ℕ → Data → Option NameId → Result (Option StatedFact) ReportFault
with_node known id fact None = Ok None
with_node known id fact (Some concept) = with_value known id fact concept (value_of fact)

-- the first step: the concept
abbrev pub with_concept : Known → List ℕ → Data → Option Expanded → Result (Option StatedFact) ReportFault
with_concept known id fact None = Err (fault.BadName id)
with_concept known id fact (Some name) = with_node known id fact (node_of known name)

-- what a member of `facts` states; nothing where it is left out
abbrev pub stated_fact : Known → List ℕ × Data → Result (Option StatedFact) ReportFault
stated_fact known m = with_concept known m.0 m.1 (concept_of known.prefixes m.1)

-- a fact that is not left out
abbrev pub fact_in : Result (Option StatedFact) ReportFault → Option StatedFact
fact_in (Ok fact) = fact
fact_in (Err fault) = None

-- a fault
abbrev pub fault_in : Result (Option StatedFact) ReportFault → Option ReportFault
fault_in (Ok fact) = None
fault_in (Err fault) = Some fault

-- the first of the faults, where there is one
abbrev pub first : List ReportFault → Option ReportFault
first [] = None
first (fault ∷ faults) = Some fault

-- the faults of members, in the order of their ids as bytes
abbrev pub faults_of : Known → Members → List ReportFault
faults_of known members = filter_map (λ m. fault_in (stated_fact known m)) (member_list members)

-- the facts of members that are not left out, in the order of their ids as bytes
abbrev pub facts_of : Known → Members → List StatedFact
facts_of known members = filter_map (λ m. fact_in (stated_fact known m)) (member_list members)

-- the facts, where there is no fault
abbrev pub facts_unless : List StatedFact → Option ReportFault → Result (List StatedFact) ReportFault
facts_unless facts None = Ok facts
facts_unless facts (Some fault) = Err fault

-- the facts of members that are not left out, or the first fault by their ids
abbrev pub stated_facts : Known → Members → Result (List StatedFact) ReportFault
stated_facts known members = facts_unless (facts_of known members) (first (faults_of known members))
