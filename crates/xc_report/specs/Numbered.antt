-- A report by the numbers of names: what was stated by expanded names, for the names as they are at the end.
use Rattle.std.specs.Prelude.{◌≡◌, ℕ, List, [], ◌∷◌, map, Option, Some, option_map}
use Rattle.std.specs.List.Sorted.{IsPermutation, IsSorted}
use Rattle.std.specs.Ordering.{nat_cmp}
use Rattle.xc_names.specs.Names.{number_of}
use Rattle.xc_names.specs.declared.expanded.Expanded.{Expanded}
use Rattle.xc_names.specs.declared.expanded.NameId.{NameId}
use Rattle.xc_report.specs.Dimensions.{in_order, key_number, distinct}
use Rattle.xc_report.specs.Each.{each_some}
use Rattle.xc_report.specs.declared.dimensions.Dimension.{Dimension}
use Rattle.xc_report.specs.declared.dimensions.Dimension.TheVariants as numbered
use Rattle.xc_report.specs.declared.dimensions.DimValue.{DimValue}
use Rattle.xc_report.specs.declared.dimensions.DimValue.TheVariants as value
use Rattle.xc_report.specs.declared.dimensions.Key.{Key}
use Rattle.xc_report.specs.declared.reports.Fact.{Fact}
use Rattle.xc_report.specs.declared.reports.Report.{Report}
use Rattle.xc_report.specs.declared.stated.DimensionName.{DimensionName}
use Rattle.xc_report.specs.declared.stated.DimensionName.TheVariants as named
use Rattle.xc_report.specs.declared.stated.StatedValue.{StatedValue}
use Rattle.xc_report.specs.declared.stated.StatedValue.TheVariants as stated
use Rattle.xc_report.specs.declared.stated.StatedPart.{StatedPart}
use Rattle.xc_report.specs.declared.stated.StatedFact.{StatedFact}
use Rattle.xc_report.specs.declared.numbered.KeyedFact.{KeyedFact}

-- the number of a name
abbrev pub id_of : List Expanded → Expanded → Option NameId
id_of names name = option_map (λ number. record { 0 = number }) (number_of name.space name.local names)

-- a dimension, where its name has a number
abbrev pub dimension_in : List Expanded → DimensionName → Option Dimension
dimension_in names named.Entity = Some numbered.Entity
dimension_in names named.Period = Some numbered.Period
dimension_in names named.Unit = Some numbered.Unit
dimension_in names named.Language = Some numbered.Language
dimension_in names named.NoteId = Some numbered.NoteId
dimension_in names (named.Taxonomy name) = option_map (λ id. numbered.Taxonomy id) (id_of names name)

-- numbers ascend; a number may stand more than once
abbrev pub Ascend : List NameId → Type 0
Ascend ids = IsSorted (λ (a b : NameId). nat_cmp a.0 b.0) ids

-- the numbers of these measures, each as often as it is stated, ascending
pub record AreMeasures (names : List Expanded) (measures : List Expanded) (ids : List NameId) : Type 0 where
  pub numbers : List NameId
  pub each : each_some (id_of names) measures ≡ Some numbers
  pub same : IsPermutation numbers ids
  pub ascend : Ascend ids

-- a value by numbers
abbrev pub IsValue : List Expanded → StatedValue → DimValue → Type 0
IsValue names (stated.Pair space local) v = v ≡ value.Pair space local
IsValue names (stated.Text text) v = v ≡ value.Text text
IsValue names (stated.Name name) v = option_map (λ id. value.Name id) (id_of names name) ≡ Some v
IsValue names stated.Null v = v ≡ value.Null
IsValue names (stated.Measures above below) v = (a : List NameId) × (b : List NameId) × (AreMeasures names above a × AreMeasures names below b × (v ≡ value.Measures a b))

-- a dimension and its value by numbers
pub record IsPart (names : List Expanded) (part : StatedPart) (by : Dimension × DimValue) : Type 0 where
  pub dimension : dimension_in names part.dimension ≡ Some by.0
  pub value : IsValue names part.value by.1

-- dimensions and values by numbers, one by one
abbrev pub AreParts : List Expanded → List StatedPart → List (Dimension × DimValue) → Type 0
AreParts names [] [] = Unit {0}
AreParts names [] (q ∷ qs) = ⊥
AreParts names (p ∷ ps) [] = ⊥
AreParts names (p ∷ ps) (q ∷ qs) = IsPart names p q × AreParts names ps qs

-- the key of what a fact states: the same dimensions with the same values by numbers, ascending by dimension
pub record IsKey (names : List Expanded) (parts : List StatedPart) (key : Key) : Type 0 where
  pub numbers : List (Dimension × DimValue)
  pub each : AreParts names parts numbers
  pub ordered : key ≡ in_order numbers

-- a fact with its key
pub record IsKeyed (names : List Expanded) (fact : StatedFact) (keyed : KeyedFact) : Type 0 where
  pub id : keyed.id ≡ fact.id
  pub concept : keyed.concept ≡ fact.concept
  pub value : keyed.value ≡ fact.value
  pub decimals : keyed.decimals ≡ fact.decimals
  pub key : IsKey names fact.parts keyed.key

-- facts with their keys, one by one
abbrev pub AreKeyed : List Expanded → List StatedFact → List KeyedFact → Type 0
AreKeyed names [] [] = Unit {0}
AreKeyed names [] (k ∷ ks) = ⊥
AreKeyed names (f ∷ fs) [] = ⊥
AreKeyed names (f ∷ fs) (k ∷ ks) = IsKeyed names f k × AreKeyed names fs ks

-- the keys of facts
abbrev pub keys_of : List KeyedFact → List Key
keys_of facts = map (λ fact. fact.key) facts

-- a fact with the number of its key
abbrev pub with_number : ℕ → KeyedFact → Fact
with_number number fact = record { id = fact.id; concept = fact.concept; key = number; value = fact.value; decimals = fact.decimals }

-- a fact with the number of its key among these
abbrev pub numbered_in : List Key → KeyedFact → Fact
numbered_in keys fact = with_number (key_number keys fact.key) fact

-- facts, each with the number of its key among the keys of all
abbrev pub numbered_facts : List KeyedFact → List Fact
numbered_facts facts = map (numbered_in (distinct (keys_of facts))) facts

-- the report of what facts state: each fact with the number of its key, and the keys, each once in the order of their first facts
pub record IsReport (names : List Expanded) (facts : List StatedFact) (report : Report) : Type 0 where
  pub keyed : List KeyedFact
  pub each : AreKeyed names facts keyed
  pub keys : report.keys ≡ distinct (keys_of keyed)
  pub facts_are : report.facts ≡ numbered_facts keyed
