-- What follows from the definitions, in the words of reports.
use Rattle.std.specs.Prelude.{◌≡◌, ◌↔◌, ◌⊎◌, ◌++◌, ℕ, List, true, codes, Contains, All, map, Option, Some, None, Ok, Err}
use Rattle.xc_report.specs.Dimensions.{IsAscending, HaveSameValues, is_same_dimension, is_same_key, in_order, key_number, value_at}
use Rattle.std.specs.List.{IsDistinct}
use Rattle.std.specs.Map.{keys_of}
use Rattle.xc_report.specs.contracts.dimensions.KeyPartialEq.TheImpl as comparison
use Rattle.serde_json.specs.Data.{Members}
use Rattle.xc_names.specs.Prefixes.{Bindings}
use Rattle.xc_names.specs.declared.expanded.Expanded.{Expanded}
use Rattle.xc_report.specs.Numbered.{IsPart, IsKey, IsReport}
use Rattle.xc_report.specs.Opened.{Opened, opened}
use Rattle.xc_report.specs.Renamed.{renamed_stated, renamed_fact, renamed_read, IsKnownAs}
use Rattle.xc_report.specs.Json.{member_list}
use Rattle.xc_report.specs.Periods.{normal_period}
use Rattle.xc_report.specs.Prefixed.{expanded_name, expanded_loosely}
use Rattle.xc_report.specs.Rules.{AllSay, FirstBreaks}
use Rattle.xc_report.specs.Rules.Names.{StandsFor, IsEntity}
use Rattle.xc_report.specs.Rules.Periods.{IsDate, IsMoment, IsPeriod}
use Rattle.xc_report.specs.Rules.Units.{IsUnit}
use Rattle.xc_report.specs.StatedFacts.{stated_facts}
use Rattle.xc_report.specs.Units.{unit}
use Rattle.xc_report.specs.Wanted.{Known}
use Rattle.xc_report.specs.declared.dimensions.Dimension.{Dimension}
use Rattle.xc_report.specs.declared.dimensions.DimValue.{DimValue}
use Rattle.xc_report.specs.declared.dimensions.Key.{Key}
use Rattle.xc_report.specs.declared.reports.Report.{Report}
use Rattle.xc_report.specs.declared.reports.ReportFault.{ReportFault}
use Rattle.xc_report.specs.declared.stated.StatedFact.{StatedFact}
use Rattle.xc_report.specs.declared.stated.StatedPart.{StatedPart}

-- keys are equal exactly where they have the same dimensions with equal values
abbrev pub KeysTellValues : Type 0
KeysTellValues = (a b : Key) → IsAscending a → IsAscending b → (is_same_key a b ≡ true) ↔ HaveSameValues a b

-- `==` answers that keys are equal exactly where they have the same dimensions with equal values
abbrev pub ComparisonTellsValues : Type 0
ComparisonTellsValues = (a b : Key) → IsAscending a → IsAscending b → (comparison.eq-value.it a b ≡ true) ↔ HaveSameValues a b

-- two of a report's keys have one number exactly where they are equal
abbrev pub OneNumberAKey : Type 0
OneNumberAKey = (keys : List Key) (a b : Key) → Contains keys a → Contains keys b → (key_number keys a ≡ key_number keys b) ↔ (a ≡ b)

-- to put dimensions in order keeps the value of each, where none stands twice
abbrev pub OrderKeepsValues : Type 0
OrderKeepsValues = (parts : List (Dimension × DimValue)) → IsDistinct is_same_dimension (keys_of parts) → HaveSameValues (in_order parts) parts

-- two keys of one list of stated parts, by two numberings of names
abbrev pub AreKeysOfOne : List Expanded → List Expanded → Key → Key → Type 0
AreKeysOfOne names others one other = (parts : List StatedPart) × IsKey names parts one × IsKey others parts other

-- whether two keys are equal is told by what is stated: it does not depend on the numbers of names
abbrev pub KeysAreOfNames : Type 0
KeysAreOfNames = (names others : List Expanded) (a b c d : Key) → AreKeysOfOne names others a b → AreKeysOfOne names others c d → is_same_key a c ≡ is_same_key b d

-- where names have other numbers, facts state the same, with the numbers of their concepts exchanged, or have the same fault
abbrev pub StatedIsRenamed : Type 0
StatedIsRenamed = (f : ℕ → ℕ) (one other : Known) → IsKnownAs f one other → (members : Members) → stated_facts other members ≡ renamed_read f (stated_facts one members)

-- and the report of what they state has the same facts, with the same numbers of keys
abbrev pub ReportIsRenamed : Type 0
ReportIsRenamed = (f : ℕ → ℕ) (names others : List Expanded) (facts : List StatedFact) (report other : Report) → IsReport names facts report → IsReport others (map (renamed_stated f) facts) other
    → other.facts ≡ map (renamed_fact f) report.facts

-- an answer is told by a relation: it is given exactly where the relation holds of it, it is missing exactly where the relation holds of nothing, and it holds of one at most
pub record IsTold {A : Type 0} (Is : A → Type 0) (answer : Option A) : Type 0 where
  pub some : (a : A) → (answer ≡ Some a) ↔ Is a
  pub none : (answer ≡ None) ↔ ((a : A) → ¬ (Is a))
  pub one : (a b : A) → Is a → Is b → a ≡ b

-- the name that is read of a text is the one that it stands for
abbrev pub NamesAreSaid : Type 0
NamesAreSaid = (prefixes : Bindings) (text : List ℕ) → IsTold (StandsFor prefixes text) (expanded_name prefixes text)

-- the entity that is read of a text is the one that it is
abbrev pub EntitiesAreSaid : Type 0
EntitiesAreSaid = (prefixes : Bindings) (text : List ℕ) → IsTold (λ name. IsEntity prefixes text name.space name.local) (expanded_loosely prefixes text)

-- each text has one normal form as a period
abbrev pub PeriodsAreSaid : Type 0
PeriodsAreSaid = (text : List ℕ) → IsTold (IsPeriod text) (Some (normal_period text))

-- the start of a day is said by its date, by itself, and by no other text
abbrev pub DaysAreMoments : Type 0
DaysAreMoments = (text date : List ℕ) → IsDate date → IsMoment text (date ++ codes "T00:00:00") ↔ ((text ≡ date) ⊎ (text ≡ date ++ codes "T00:00:00"))

-- the measures that are read of a unit text are those above the line and below it
abbrev pub UnitsAreSaid : Type 0
UnitsAreSaid = (prefixes : Bindings) (text : List ℕ) → IsTold (λ measures. IsUnit prefixes text measures.0 measures.1) (unit prefixes text)

-- facts are answered exactly where each member is left out or readable, each with what it says
abbrev pub FactsAreSaid : Type 0
FactsAreSaid = (known : Known) (members : Members) (facts : List StatedFact) → (stated_facts known members ≡ Ok facts) ↔ AllSay known (member_list members) facts

-- and a fault exactly where it is that of the first member that breaks a rule
abbrev pub FaultsAreFirst : Type 0
FaultsAreFirst = (known : Known) (members : Members) (f : ReportFault) → (stated_facts known members ≡ Err f) ↔ FirstBreaks known (member_list members) f

-- a key says what these parts state: it has a value at a dimension exactly where a part states this value of this dimension
abbrev pub SaysWhatIsStated : List Expanded → List StatedPart → Key → Type 0
SaysWhatIsStated names parts key = (dimension : Dimension) (v : DimValue) → (value_at key dimension ≡ Some v) ↔ ((part : StatedPart) × Contains parts part × IsPart names part (dimension, v))

-- the key of a fact that was read says what the fact states
abbrev pub KeysSayWhatIsStated : Type 0
KeysSayWhatIsStated = (bytes : List ℕ) (report : Opened) → opened bytes ≡ Ok report → (known : Known) (facts : List StatedFact)
    → stated_facts known report.facts ≡ Ok facts → All (λ fact. (names : List Expanded) (key : Key) → IsKey names fact.parts key → SaysWhatIsStated names fact.parts key) facts
