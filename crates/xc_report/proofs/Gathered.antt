-- Facts that are read, numbered and placed one by one.
use Rattle.std.proofs.Common.{◌≡◌, ◌++◌, List, [], ◌∷◌, true, map, fold, Option, Some, None, Ok, Err, String, string_bytes, refl, sym, ap, ap₂, subst, ◌∙◌, append_assoc}
use Rattle.std.specs.declared.alloc.Global.{Global}
use Rattle.std.specs.List.{AllByRecursion, list_any, cons_option}
use Rattle.serde_json.specs.Data.{Members}
use Rattle.serde_json.specs.View.{view, members_view}
use Rattle.serde_json.specs.declared.value.Value.{Value}
use Rattle.xc_names.specs.Names.{KeepsNumbers}
use Rattle.xc_names.specs.declared.expanded.Expanded.{Expanded}
use Rattle.xc_report.specs.Dimensions.{is_same_key, with_key, distinct}
use Rattle.xc_report.specs.Numbered.{IsKeyed, AreKeyed, IsReport, keys_of, with_number, numbered_in}
use Rattle.xc_report.specs.StatedFacts.{first, faults_of, facts_of, facts_unless, stated_facts, stated_fact, fact_in, fault_in}
use Rattle.xc_report.specs.Steps.{AreGathered, TellsReport}
use Rattle.xc_report.specs.Steps.Gained.{Lasts}
use Rattle.xc_report.specs.Wanted.{Known}
use Rattle.xc_report.specs.declared.dimensions.Key.{Key}
use Rattle.xc_report.specs.declared.numbered.KeyedFact.{KeyedFact}
use Rattle.xc_report.specs.declared.reports.Fact.{Fact}
use Rattle.xc_report.specs.declared.reports.Report.{Report}
use Rattle.xc_report.specs.declared.reports.ReportFault.{ReportFault}
use Rattle.xc_report.specs.declared.stated.StatedFact.{StatedFact}
use Rattle.xc_report.proofs.Kept.{kept_on}
use Rattle.xc_report.proofs.KeyPlaces.{number_stays}
use Rattle.xc_report.proofs.ReportFacts.{all_there}

pub none_gathered : (names : List Expanded) → AreGathered names [] [] []
none_gathered names = record { keyed = []; each = λ later keeps. tt; keys_are = refl; facts_are = refl }

-- one fact more with its key
keyed_more : (names : List Expanded) (facts : List StatedFact) (keyed : List KeyedFact) (fact : StatedFact) (made : KeyedFact) → AreKeyed names facts keyed → IsKeyed names fact made → AreKeyed names (facts ++ fact ∷ []) (keyed ++ made ∷ [])
keyed_more names [] [] fact made are is = (is, tt)
keyed_more names [] (k ∷ ks) fact made are is = absurd are
keyed_more names (f ∷ fs) [] fact made are is = absurd are
keyed_more names (f ∷ fs) (k ∷ ks) fact made are is = (are.0, keyed_more names fs ks fact made are.1 is)

keys_more : (keys : List Key) (keyed : List KeyedFact) (made : KeyedFact) → fold with_key keys (keys_of (keyed ++ made ∷ [])) ≡ with_key (fold with_key keys (keys_of keyed)) made.key
keys_more keys [] made = refl
keys_more keys (k ∷ ks) made = keys_more (with_key keys k.key) ks made

map_more : {X Y : Type 0} (f : X → Y) (xs : List X) (x : X) → map f (xs ++ x ∷ []) ≡ map f xs ++ f x ∷ []
map_more f [] x = refl
map_more f (y ∷ ys) x = ap (λ zs. f y ∷ zs) (map_more f ys x)

-- the facts so far keep the numbers of their keys
numbers_stay : (keys : List Key) (key : Key) (keyed : List KeyedFact) → AllByRecursion (λ k. list_any (is_same_key k) keys ≡ true) (keys_of keyed) → map (numbered_in (with_key keys key)) keyed ≡ map (numbered_in keys) keyed
numbers_stay keys key [] all = refl
numbers_stay keys key (k ∷ ks) all = ap₂ (λ x xs. x ∷ xs) (ap (λ n. with_number n k) (number_stays keys (key ∷ []) k.key all.0)) (numbers_stay keys key ks all.1)

-- with one fact more
pub gathered_more : (names more : List Expanded) (stated : List StatedFact) (facts : List Fact) (keys put : List Key) (fact : StatedFact) (keyed : KeyedFact) (made : Fact)
    → AreGathered names stated facts keys → KeepsNumbers names more → Lasts more (λ later. IsKeyed later fact keyed)
    → put ≡ with_key keys keyed.key → made ≡ numbered_in put keyed → AreGathered more (stated ++ fact ∷ []) (facts ++ made ∷ []) put
gathered_more names more stated facts keys put fact keyed made so_far kept is put_is made_is =
    let before = distinct (keys_of so_far.keyed) in
    let after = distinct (keys_of (so_far.keyed ++ keyed ∷ [])) in
    let grown : after ≡ with_key before keyed.key = keys_more [] so_far.keyed keyed in
    let whole : put ≡ after = put_is ∙ ap (λ ks. with_key ks keyed.key) so_far.keys_are ∙ sym grown in
    let stay : map (numbered_in before) so_far.keyed ≡ map (numbered_in after) so_far.keyed =
    sym (numbers_stay before keyed.key so_far.keyed (all_there [] (keys_of so_far.keyed))) ∙ ap (λ ks. map (numbered_in ks) so_far.keyed) (sym grown) in
    record {
      keyed = so_far.keyed ++ keyed ∷ [];
      each = λ later keeps. keyed_more later stated so_far.keyed fact keyed (so_far.each later (kept_on names more later kept keeps)) (is later keeps);
      keys_are = whole;
      facts_are = ap₂ (λ xs x. xs ++ x ∷ []) (so_far.facts_are ∙ stay) (made_is ∙ ap (λ ks. numbered_in ks keyed) whole) ∙ sym (map_more (numbered_in after) so_far.keyed keyed);
    }

-- ---- members, one after another

-- what was read, with what the members that are left give, is what all give
abbrev pub AreRead : Known → Members → Members → List Expanded → List Fact → List Key → Type 0
AreRead known all left names facts keys = (stated : List StatedFact) × (stated ++ facts_of known left ≡ facts_of known all) × AreGathered names stated facts keys

module _ (known : Known) (all : Members) (at left : List (String Global × Value)) (id : String Global) (member : Value) (here : at ≡ (id, member) ∷ left) where
  facts_here : (o : Option StatedFact) → stated_fact known (string_bytes id, view member) ≡ Ok o → facts_of known (members_view at) ≡ cons_option o (facts_of known (members_view left))
  facts_here o is = ap (λ es. facts_of known (members_view es)) here ∙ ap (λ r. cons_option (fact_in r) (facts_of known (members_view left))) is

  -- a member that states a fact, or is left out, has no fault
  pub no_fault : (o : Option StatedFact) → stated_fact known (string_bytes id, view member) ≡ Ok o → first (faults_of known all) ≡ first (faults_of known (members_view at)) → first (faults_of known all) ≡ first (faults_of known (members_view left))
  no_fault o is e = e ∙ ap (λ es. first (faults_of known (members_view es))) here ∙ ap (λ r. first (cons_option (fault_in r) (faults_of known (members_view left)))) is

  -- a member that is left out
  pub left_out : (names more : List Expanded) (facts put : List Fact) (keys with_it : List Key) → stated_fact known (string_bytes id, view member) ≡ Ok None → more ≡ names → put ≡ facts → with_it ≡ keys
      → AreRead known all (members_view at) names facts keys → AreRead known all (members_view left) more put with_it
  left_out names more facts put keys with_it is same_names same_facts same_keys so_far =
      (so_far.0, ap (λ fs. so_far.0 ++ fs) (sym (facts_here None is)) ∙ so_far.1, rw same_names (rw same_facts (rw same_keys so_far.2)))

  -- a member that states a fact
  pub fact_read : (names more : List Expanded) (facts put : List Fact) (keys with_it : List Key) (fact : StatedFact) (keyed : KeyedFact) (made : Fact) → stated_fact known (string_bytes id, view member) ≡ Ok (Some fact)
      → KeepsNumbers names more → Lasts more (λ later. IsKeyed later fact keyed) → with_it ≡ with_key keys keyed.key → made ≡ numbered_in with_it keyed → put ≡ facts ++ made ∷ []
      → AreRead known all (members_view at) names facts keys → AreRead known all (members_view left) more put with_it
  fact_read names more facts put keys with_it fact keyed made is kept keys_it with_is made_is put_is so_far =
      let rest = facts_of known (members_view left) in (
        so_far.0 ++ fact ∷ [],
        append_assoc so_far.0 (fact ∷ []) rest ∙ ap (λ fs. so_far.0 ++ fs) (sym (facts_here (Some fact) is)) ∙ so_far.1,
        subst (λ fs. AreGathered more (so_far.0 ++ fact ∷ []) fs with_it) (sym put_is) (gathered_more names more so_far.0 facts keys with_it fact keyed made so_far.2 kept keys_it with_is made_is),
      )

-- all of them are the report
pub report_gathered : (names later : List Expanded) (stated : List StatedFact) (report : Report) → AreGathered names stated report.facts report.keys → KeepsNumbers names later → IsReport later stated report
report_gathered names later stated report all keeps = record { keyed = all.keyed; each = all.each later keeps; keys = all.keys_are; facts_are = all.facts_are }

-- ---- what is answered of them

-- facts that were read, none with a fault, and their report
pub facts_read : (known : Known) (ms : Members) (names later : List Expanded) (report : Report) → TellsReport (Ok report) known ms names → KeepsNumbers names later
    → (facts : List StatedFact) × ((stated_facts known ms ≡ Ok facts) × IsReport later facts report)
facts_read known ms names later report told keeps = (facts_of known ms, (ap (facts_unless (facts_of known ms)) told.0, told.1 later keeps))

-- or the first fault
pub fault_read : (known : Known) (ms : Members) (f : ReportFault) → first (faults_of known ms) ≡ Some f → stated_facts known ms ≡ Err f
fault_read known ms f e = ap (facts_unless (facts_of known ms)) e
