-- What private steps of the code say. No public clause cites them.
pub mod Gained
use Rattle.std.specs.Prelude.{◌≡◌, ◌≤◌, ◌++◌, List, [], true, false, Option, Some, None, Result, Ok, Err, Vec, vec_capacity, length}
use Rattle.std.specs.declared.alloc.Global.{Global}
use Rattle.serde_json.specs.Data.{Members}
use Rattle.xc_report.specs.Stated.{are_parts, given_parts}
use Rattle.xc_report.specs.Steps.Gained.{Lasts}
use Rattle.xc_report.specs.Reports.{StatedIdsAscend}
use Rattle.xc_report.specs.StatedFacts.{first, faults_of, facts_of}
use Rattle.xc_names.specs.Names.{AreNumbered}
use Rattle.xc_names.specs.declared.expanded.Expanded.{Expanded}
use Rattle.xc_report.specs.Dimensions.{distinct}
use Rattle.xc_report.specs.Numbered.{AreKeyed, IsReport, keys_of, numbered_facts}
use Rattle.xc_report.specs.declared.numbered.KeyedFact.{KeyedFact}
use Rattle.xc_report.specs.declared.reports.Fact.{Fact}
use Rattle.xc_report.specs.declared.reports.Report.{Report}
use Rattle.xc_report.specs.declared.stated.StatedFact.{StatedFact}
use Rattle.xc_report.specs.declared.stated.StatedPart.{StatedPart}
use Rattle.xc_report.specs.Wanted.{Known}
use Rattle.xc_report.specs.declared.dimensions.Key.{Key}
use Rattle.xc_report.specs.declared.known.Known as lent
use Rattle.xc_report.specs.declared.reports.ReportFault.{ReportFault}
use Rattle.xc_report.specs.declared.reports.ReportFault.TheVariants as fault
use Rattle.xc_report.specs.declared.stated.Refusal.{Refusal}
use Rattle.xc_report.specs.declared.stated.Refusal.TheVariants as refusal

-- the answer, or that there is none, but for want of memory
abbrev pub Reads : {A : Type 0} → Result A Refusal → Option A → Type 0
Reads (Ok a) answer = answer ≡ Some a
Reads (Err refusal.Memory) answer = Unit {0}
Reads (Err refusal.Bad) answer = answer ≡ None

-- the answer, or its fault
abbrev pub Tells : {A : Type 0} → Result A ReportFault → Result A ReportFault → Type 0
Tells (Ok a) answer = answer ≡ Ok a
Tells (Err e) answer = ¬ (e ≡ fault.Memory) → answer ≡ Err e

-- facts that were read one after another: names that keep their numbers from here on give them keys, and each fact has the number of its key among these
pub record AreGathered (names : List Expanded) (stated : List StatedFact) (facts : List Fact) (keys : List Key) : Type 0 where
  pub keyed : List KeyedFact
  pub each : Lasts names (λ later. AreKeyed later stated keyed)
  pub keys_are : keys ≡ distinct (keys_of keyed)
  pub facts_are : facts ≡ numbered_facts keyed

-- what is answered of the members of `facts`, with these names
abbrev pub TellsReport : Result Report ReportFault → Known → Members → List Expanded → Type 0
TellsReport (Ok report) known ms names = (first (faults_of known ms) ≡ None) × Lasts names (λ later. IsReport later (facts_of known ms) report)
TellsReport (Err e) known ms names = ¬ (e ≡ fault.Memory) → first (faults_of known ms) ≡ Some e

-- what is answered of them, with the names that are gained behind these: a report of what they state, by names that keep their numbers, and their ids ascend
abbrev pub TellsRead : Result (Report × List Expanded) ReportFault → Known → Members → List Expanded → Type 0
TellsRead (Ok read) known ms names =
    TellsReport (Ok read.0) known ms (names ++ read.1) × StatedIdsAscend (facts_of known ms) × AreNumbered (names ++ read.1)
TellsRead (Err e) known ms names = TellsReport (Err e) known ms names

-- what is answered of members of `dimensions`: the parts that they give, or that not each is a dimension
abbrev pub GivesParts : Result (Vec StatedPart Global) Refusal → Known → Members → Type 0
GivesParts (Ok parts) known ms = (are_parts known ms ≡ true) × (parts.items ≡ given_parts known ms)
GivesParts (Err refusal.Memory) known ms = Unit {0}
GivesParts (Err refusal.Bad) known ms = are_parts known ms ≡ false

-- what is known, as it is lent
abbrev pub known_view : lent.Known → Known
known_view k = record { prefixes = k.prefixes.now; names = k.names.now; nodes = k.nodes; typed = k.typed }

-- an empty list with room for as many keys
pub record HasRoom (keys : List Key) (list : Vec Key Global) : Type 0 where
  pub empty : list.items ≡ []
  pub room : length keys ≤ vec_capacity list
