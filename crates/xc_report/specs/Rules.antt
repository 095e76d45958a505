-- The rules of xBRL-JSON 1.0 on the dimensions of a fact and on fact objects, apart from the steps in which they are read.
pub mod Cuts
pub mod Names
pub mod Periods
pub mod Units
use Rattle.std.specs.Prelude.{◌≡◌, ◌≢◌, ℕ, ℤ, Bool, true, false, List, [], ◌∷◌, ◌⊎◌, codes, Option, Some, None, Result, Ok, Err}
use Rattle.std.specs.List.{cons_option}
use Rattle.serde_json.specs.Data.{Data, null, number, string, object, Num, Members}
use Rattle.serde_json.specs.Find.{get, as_i64}
use Rattle.xc_chars.specs.Trimmed.{trimmed}
use Rattle.xc_decimal.specs.Numbers.{reading}
use Rattle.xc_decimal.specs.Shortest.{Shortest}
use Rattle.xc_decimal.specs.declared.decimal.DecimalFault.TheVariants as unread
use Rattle.xc_names.specs.Prefixes.{Bindings}
use Rattle.xc_names.specs.declared.expanded.Expanded.{Expanded}
use Rattle.xc_names.specs.declared.expanded.NameId.{NameId}
use Rattle.xc_report.specs.Json.{member_list}
use Rattle.xc_report.specs.Rules.Names.{StandsFor, IsEntity}
use Rattle.xc_report.specs.Rules.Periods.{IsPeriod}
use Rattle.xc_report.specs.Rules.Units.{IsUnit, IsPure, pure_measure}
use Rattle.xc_report.specs.Stated.{part, has_twice}
use Rattle.xc_report.specs.Wanted.{Known, node_of, is_typed}
use Rattle.xc_report.specs.declared.reports.Reading.{Reading}
use Rattle.xc_report.specs.declared.reports.Reading.TheVariants as read
use Rattle.xc_report.specs.declared.reports.ReportFault.{ReportFault}
use Rattle.xc_report.specs.declared.reports.ReportFault.TheVariants as fault
use Rattle.xc_report.specs.declared.stated.DimensionName.TheVariants as dimension
use Rattle.xc_report.specs.declared.stated.StatedFact.{StatedFact}
use Rattle.xc_report.specs.declared.stated.StatedPart.{StatedPart}
use Rattle.xc_report.specs.declared.stated.StatedValue.{StatedValue}
use Rattle.xc_report.specs.declared.stated.StatedValue.TheVariants as value

-- ---- dimensions

-- none of the dimensions that xBRL-JSON itself names
pub record IsNoCoreName (name : List ℕ) : Type 0 where
  pub concept : name ≢ codes "concept"
  pub entity : name ≢ codes "entity"
  pub period : name ≢ codes "period"
  pub unit : name ≢ codes "unit"
  pub language : name ≢ codes "language"
  pub note : name ≢ codes "noteId"

-- a dimension of a taxonomy has this value: null; a text as it is, where the dimension is typed; and else the member that a name with a declared prefix stands for, or the text, where it is none
pub data IsMember (known : Known) (name : Expanded) (d : Data) (v : StatedValue) : Type 0 where
  NoMember : d ≡ null → v ≡ value.Null → IsMember known name d v
  TypedMember : (text : List ℕ) → d ≡ string text → is_typed known name ≡ true → v ≡ value.Text text → IsMember known name d v
  ExplicitMember : (text : List ℕ) (member : Expanded) → d ≡ string text → is_typed known name ≡ false → StandsFor known.prefixes text member → v ≡ value.Name member → IsMember known name d v
  OtherMember : (text : List ℕ) → d ≡ string text → is_typed known name ≡ false → ((member : Expanded) → ¬ (StandsFor known.prefixes text member)) → v ≡ value.Text text → IsMember known name d v

-- a member of `dimensions` states this dimension with this value, or none: the concept, which stands beside the key, and the unit `pure` alone, which says the same as no unit
pub data States (known : Known) (name : List ℕ) (d : Data) (p : Option StatedPart) : Type 0 where
  StatesConcept : name ≡ codes "concept" → p ≡ None → States known name d p
  StatesEntity : (text scheme identifier : List ℕ) → name ≡ codes "entity" → d ≡ string text → IsEntity known.prefixes text scheme identifier
      → p ≡ Some (part dimension.Entity (value.Pair scheme identifier)) → States known name d p
  StatesPeriod : (text period : List ℕ) → name ≡ codes "period" → d ≡ string text → IsPeriod text period → p ≡ Some (part dimension.Period (value.Text period)) → States known name d p
  StatesPure : (text : List ℕ) → name ≡ codes "unit" → d ≡ string text → IsUnit known.prefixes text (pure_measure ∷ []) [] → p ≡ None → States known name d p
  StatesUnit : (text : List ℕ) (above below : List Expanded) → name ≡ codes "unit" → d ≡ string text → IsUnit known.prefixes text above below → ¬ (IsPure above below)
      → p ≡ Some (part dimension.Unit (value.Measures above below)) → States known name d p
  StatesLanguage : (text : List ℕ) → name ≡ codes "language" → d ≡ string text → p ≡ Some (part dimension.Language (value.Text text)) → States known name d p
  StatesNote : (text : List ℕ) → name ≡ codes "noteId" → d ≡ string text → p ≡ Some (part dimension.NoteId (value.Text text)) → States known name d p
  StatesTaxonomy : (axis : Expanded) (v : StatedValue) → IsNoCoreName name → StandsFor known.prefixes name axis → IsMember known axis d v
      → p ≡ Some (part (dimension.Taxonomy axis) v) → States known name d p

-- these members state these dimensions, in their order
abbrev pub AllState : Known → List (List ℕ × Data) → List StatedPart → Type 0
AllState known [] parts = parts ≡ []
AllState known (m ∷ ms) parts = (p : Option StatedPart) × (rest : List StatedPart) × States known m.0 m.1 p × AllState known ms rest × (parts ≡ cons_option p rest)

-- the `dimensions` of a fact state these dimensions, none of them twice
pub record HasDimensions (known : Known) (fact : Data) (parts : List StatedPart) : Type 0 where
  pub members : Members
  pub held : get (codes "dimensions") fact ≡ Some (object members)
  pub state : AllState known (member_list members) parts
  pub once : has_twice parts ≡ false

-- ---- fact objects

-- a fact is one of the concept of this name: `concept` among its dimensions is a name with a declared prefix
pub record IsAbout (prefixes : Bindings) (fact : Data) (name : Expanded) : Type 0 where
  pub dimensions : Data
  pub held : get (codes "dimensions") fact ≡ Some dimensions
  pub text : List ℕ
  pub stated : get (codes "concept") dimensions ≡ Some (string text)
  pub named : StandsFor prefixes text name

-- a fact is one of a concept that is a node, the one with this number
pub record IsOfNode (known : Known) (fact : Data) (concept : NameId) : Type 0 where
  pub name : Expanded
  pub about : IsAbout known.prefixes fact name
  pub node : node_of known name ≡ Some concept

-- the value of a fact is null: it is nil
abbrev pub IsNil : Data → Type 0
IsNil fact = get (codes "value") fact ≡ Some null

-- the value of a fact is this text
abbrev pub HasText : Data → List ℕ → Type 0
HasText fact text = get (codes "value") fact ≡ Some (string text)

-- a text says this number, without the white space around it: a decimal number, or one that is too wide
pub data Says (text : List ℕ) (r : Reading) : Type 0 where
  SaysNumber : (decimal : Shortest) → reading (trimmed text) ≡ Ok decimal → r ≡ read.Number decimal → Says text r
  SaysWide : reading (trimmed text) ≡ Err unread.Wide → r ≡ read.Wide → Says text r

-- the `decimals` of a fact: none, or a whole number in the signed 64-bit range
pub data HasDecimals (fact : Data) (decimals : Option ℤ) : Type 0 where
  NoDecimals : get (codes "decimals") fact ≡ None → decimals ≡ None → HasDecimals fact decimals
  WholeDecimals : (n : Num) (whole : ℤ) → get (codes "decimals") fact ≡ Some (number n) → as_i64 n ≡ Some whole → decimals ≡ Some whole → HasDecimals fact decimals

-- a fact is left out: nothing more is asked of one whose concept is no node, nor of one that is nil
pub data IsLeftOut (known : Known) (fact : Data) : Type 0 where
  OfNoNode : (name : Expanded) → IsAbout known.prefixes fact name → node_of known name ≡ None → IsLeftOut known fact
  Nil : (concept : NameId) → IsOfNode known fact concept → IsNil fact → IsLeftOut known fact

-- a fact of this id, of a concept that is a node, says this
pub record IsReadable (known : Known) (id : List ℕ) (fact : Data) (stated : StatedFact) : Type 0 where
  pub same_id : stated.id ≡ id
  pub of_node : IsOfNode known fact stated.concept
  pub text : List ℕ
  pub has_text : HasText fact text
  pub dimensions : HasDimensions known fact stated.parts
  pub says : Says text stated.value
  pub decimals : HasDecimals fact stated.decimals

-- a fact of this id breaks a rule, and this is its first fault: it is about no concept; its value is neither null nor a text; its dimensions are none that a fact may have; its text says no number; its decimals are no whole number
pub data Breaks (known : Known) (id : List ℕ) (fact : Data) (f : ReportFault) : Type 0 where
  NoConcept : ((name : Expanded) → ¬ (IsAbout known.prefixes fact name)) → f ≡ fault.BadName id → Breaks known id fact f
  NoValue : (concept : NameId) → IsOfNode known fact concept → ¬ (IsNil fact) → ((text : List ℕ) → ¬ (HasText fact text)) → f ≡ fault.BadValue id → Breaks known id fact f
  NoDimensions : (concept : NameId) (text : List ℕ) → IsOfNode known fact concept → HasText fact text → ((parts : List StatedPart) → ¬ (HasDimensions known fact parts))
      → f ≡ fault.BadName id → Breaks known id fact f
  NoNumber : (concept : NameId) (text : List ℕ) (parts : List StatedPart) → IsOfNode known fact concept → HasText fact text → HasDimensions known fact parts → ((r : Reading) → ¬ (Says text r))
      → f ≡ fault.BadValue id → Breaks known id fact f
  BadDecimals : (concept : NameId) (text : List ℕ) (parts : List StatedPart) (r : Reading) → IsOfNode known fact concept → HasText fact text → HasDimensions known fact parts → Says text r
      → ((decimals : Option ℤ) → ¬ (HasDecimals fact decimals)) → f ≡ fault.BadDecimals id → Breaks known id fact f

-- ---- all facts

-- what members of `facts` say: each is left out or readable, in the order of their ids
abbrev pub AllSay : Known → List (List ℕ × Data) → List StatedFact → Type 0
AllSay known [] facts = facts ≡ []
AllSay known (m ∷ ms) facts =
    (IsLeftOut known m.1 × AllSay known ms facts)
    ⊎ ((fact : StatedFact) × (rest : List StatedFact) × IsReadable known m.0 m.1 fact × AllSay known ms rest × (facts ≡ fact ∷ rest))

-- the members before the first that breaks a rule are left out or readable, and this is its fault
abbrev pub FirstBreaks : Known → List (List ℕ × Data) → ReportFault → Type 0
FirstBreaks known [] f = ⊥
FirstBreaks known (m ∷ ms) f =
    Breaks known m.0 m.1 f
    ⊎ ((IsLeftOut known m.1 ⊎ ((fact : StatedFact) × IsReadable known m.0 m.1 fact)) × FirstBreaks known ms f)
