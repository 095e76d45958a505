-- What facts state, by other numbers.
use Rattle.std.proofs.Common.{◌≡◌, ◌&&◌, ℕ, ℤ, List, codes, map, not, Option, Some, None, is_some, option_map, option_and_then, Result, Ok, Err, if◌then◌else◌, refl, ap, ◌∙◌}
use Rattle.std.specs.List.{list_all, filter_map}
use Rattle.std.specs.Str.{bytes_eq}
use Rattle.serde_json.specs.Data.{Data, Members}
use Rattle.serde_json.specs.Find.{as_object}
use Rattle.xc_names.specs.declared.expanded.Expanded.{Expanded}
use Rattle.xc_names.specs.declared.expanded.NameId.{NameId}
use Rattle.xc_report.specs.Json.{member_list}
use Rattle.xc_report.specs.Prefixed.{expanded_name}
use Rattle.xc_report.specs.Stated.{entity_value, period_value, text_value, taxonomy_value, part_with, unit_part, taxonomy_part, part_of, has_twice, parts_of}
use Rattle.xc_report.specs.StatedFacts.{dimensions_of, concept_of, value_of, fact_parts, value_read, decimals_of, with_decimals, with_reading, with_parts, with_value, with_node, with_concept, stated_fact, fact_in, fault_in, first, faults_of, facts_of, facts_unless, stated_facts}
use Rattle.xc_report.specs.Wanted.{Known, node_of}
use Rattle.xc_report.specs.declared.reports.Reading.{Reading}
use Rattle.xc_report.specs.declared.reports.ReportFault.{ReportFault}
use Rattle.xc_report.specs.declared.stated.DimensionName.TheVariants as dimension
use Rattle.xc_report.specs.declared.stated.StatedFact.{StatedFact}
use Rattle.xc_report.specs.declared.stated.StatedPart.{StatedPart}
use Rattle.xc_lists.proofs.ListsOfImages.{filter_map_changed}
use Rattle.xc_report.specs.Renamed.{renamed_id, renamed_stated, renamed_read, IsKnownAs}

-- ---- the parts of keys

-- the parts of a key, by what each member gives
abbrev parts_by : (List ℕ × Data → Option (Option StatedPart)) → Members → Option (List StatedPart)
parts_by part members =
    let parts = filter_map (λ m. option_and_then (λ p. p) (part m)) (member_list members) in
    if list_all (λ m. is_some (part m)) (member_list members) && not (has_twice parts) then Some parts else None

module _ (f : ℕ → ℕ) (one other : Known) (k : IsKnownAs f one other) where
  taxonomy_alike : (d : Data) (o : Option Expanded) → taxonomy_part other d o ≡ taxonomy_part one d o
  taxonomy_alike d None = refl
  taxonomy_alike d (Some name) = λ i. part_with (dimension.Taxonomy name) (taxonomy_value (k.prefixes i) (k.typed name i) d)

  dimension_alike : (m : List ℕ × Data) → taxonomy_part other m.1 (expanded_name other.prefixes m.0) ≡ taxonomy_part one m.1 (expanded_name one.prefixes m.0)
  dimension_alike m = taxonomy_alike m.1 (expanded_name other.prefixes m.0) ∙ ap (λ prefixes. taxonomy_part one m.1 (expanded_name prefixes m.0)) k.prefixes

  part_alike : (m : List ℕ × Data) → part_of other m ≡ part_of one m
  part_alike m = λ i.
      if bytes_eq m.0 (codes "concept") then Some None
      else if bytes_eq m.0 (codes "entity") then part_with dimension.Entity (entity_value (k.prefixes i) m.1)
      else if bytes_eq m.0 (codes "period") then part_with dimension.Period (period_value m.1)
      else if bytes_eq m.0 (codes "unit") then unit_part (k.prefixes i) m.1
      else if bytes_eq m.0 (codes "language") then part_with dimension.Language (text_value m.1)
      else if bytes_eq m.0 (codes "noteId") then part_with dimension.NoteId (text_value m.1)
      else dimension_alike m i

  parts_alike : (members : Members) → parts_of other members ≡ parts_of one members
  parts_alike members = λ i. parts_by (λ m. part_alike m i) members

  fact_parts_alike : (fact : Data) → fact_parts other fact ≡ fact_parts one fact
  fact_parts_alike fact = λ i. option_and_then (λ members. parts_alike members i) (option_and_then as_object (dimensions_of fact))

-- ---- the steps of reading a fact

-- a fact, none or a fault, with another number
abbrev renamed_one : (ℕ → ℕ) → Result (Option StatedFact) ReportFault → Result (Option StatedFact) ReportFault
renamed_one f (Ok fact) = Ok (option_map (renamed_stated f) fact)
renamed_one f (Err fault) = Err fault

module _ (f : ℕ → ℕ) where
  decimals_renamed : (id : List ℕ) (concept : NameId) (parts : List StatedPart) (value : Reading) (o : Option (Option ℤ)) → with_decimals id (renamed_id f concept) parts value o ≡ renamed_one f (with_decimals id concept parts value o)
  decimals_renamed id concept parts value None = refl
  decimals_renamed id concept parts value (Some decimals) = refl

  reading_renamed : (id : List ℕ) (fact : Data) (concept : NameId) (parts : List StatedPart) (o : Option Reading) → with_reading id fact (renamed_id f concept) parts o ≡ renamed_one f (with_reading id fact concept parts o)
  reading_renamed id fact concept parts None = refl
  reading_renamed id fact concept parts (Some value) = decimals_renamed id concept parts value (decimals_of fact)

  parts_renamed : (id : List ℕ) (fact : Data) (concept : NameId) (text : List ℕ) (o : Option (List StatedPart)) → with_parts id fact (renamed_id f concept) text o ≡ renamed_one f (with_parts id fact concept text o)
  parts_renamed id fact concept text None = refl
  parts_renamed id fact concept text (Some parts) = reading_renamed id fact concept parts (value_read text)

  fault_kept : (r : Result (Option StatedFact) ReportFault) → fault_in (renamed_one f r) ≡ fault_in r
  fault_kept (Ok fact) = refl
  fault_kept (Err fault) = refl

  fact_changed : (r : Result (Option StatedFact) ReportFault) → fact_in (renamed_one f r) ≡ option_map (renamed_stated f) (fact_in r)
  fact_changed (Ok fact) = refl
  fact_changed (Err fault) = refl

  facts_changed : (facts : List StatedFact) (o : Option ReportFault) → facts_unless (map (renamed_stated f) facts) o ≡ renamed_read f (facts_unless facts o)
  facts_changed facts None = refl
  facts_changed facts (Some fault) = refl

  module _ (one other : Known) (k : IsKnownAs f one other) where
    value_renamed : (id : List ℕ) (fact : Data) (concept : NameId) (o : Option (Option (List ℕ))) → with_value other id fact (renamed_id f concept) o ≡ renamed_one f (with_value one id fact concept o)
    value_renamed id fact concept None = refl
    value_renamed id fact concept (Some None) = refl
    value_renamed id fact concept (Some (Some text)) =
        ap (with_parts id fact (renamed_id f concept) text) (fact_parts_alike f one other k fact) ∙ parts_renamed id fact concept text (fact_parts one fact)

    node_renamed : (id : List ℕ) (fact : Data) (o : Option NameId) → with_node other id fact (option_map (renamed_id f) o) ≡ renamed_one f (with_node one id fact o)
    node_renamed id fact None = refl
    node_renamed id fact (Some concept) = value_renamed id fact concept (value_of fact)

    concept_renamed : (id : List ℕ) (fact : Data) (o : Option Expanded) → with_concept other id fact o ≡ renamed_one f (with_concept one id fact o)
    concept_renamed id fact None = refl
    concept_renamed id fact (Some name) = ap (with_node other id fact) (k.nodes name) ∙ node_renamed id fact (node_of one name)

    -- what a member states
    stated_renamed : (m : List ℕ × Data) → stated_fact other m ≡ renamed_one f (stated_fact one m)
    stated_renamed m = ap (λ prefixes. with_concept other m.0 m.1 (concept_of prefixes m.1)) k.prefixes ∙ concept_renamed m.0 m.1 (concept_of one.prefixes m.1)

    faults_alike : (members : Members) → faults_of other members ≡ faults_of one members
    faults_alike members = λ i. filter_map (λ m. (ap fault_in (stated_renamed m) ∙ fault_kept (stated_fact one m)) i) (member_list members)

    facts_of_renamed : (members : Members) → facts_of other members ≡ map (renamed_stated f) (facts_of one members)
    facts_of_renamed members =
        filter_map_changed (renamed_stated f) (λ m. fact_in (stated_fact one m)) (λ m. fact_in (stated_fact other m)) (λ m. ap fact_in (stated_renamed m) ∙ fact_changed (stated_fact one m)) (member_list members)

-- what facts state, by other numbers
pub facts_renamed : (f : ℕ → ℕ) (one other : Known) → IsKnownAs f one other → (members : Members) → stated_facts other members ≡ renamed_read f (stated_facts one members)
facts_renamed f one other k members =
    (λ i. facts_unless (facts_of_renamed f one other k members i) (first (faults_alike f one other k members i)))
    ∙ facts_changed f (facts_of one members) (first (faults_of one members))
