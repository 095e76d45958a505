use Rattle.std.proofs.Common.{rules, Vec, Global, ◌≡◌, [], ◌∷◌, ap, Ok, string_bytes, sym, subst, ◌∙◌}
use Rattle.serde_json.specs.View.{view, members_view}
use Rattle.xc_report.specs.Steps.{AreGathered, known_view}
use Rattle.xc_names.specs.Names.{KeepsNumbers}
use Rattle.xc_report.specs.Numbered.{IsKeyed, numbered_in}
use Rattle.xc_report.specs.declared.reports.Fact.{Fact}
use Rattle.xc_report.specs.Steps.Gained.{MayGain, Lasts, all_names}
use Rattle.xc_report.specs.StatedFacts.{first, faults_of, facts_of, stated_fact}
use Rattle.xc_report.proofs.Gathered.{none_gathered, no_fault, left_out, fact_read}
use Rattle.xc_report.proofs.Kept.{none_gained, gain_on}
use Rattle.xc_report.proofs.StatedIds.{stated_ascend}
use Rattle.xc_report.proofs.numbered.numbered_report.Goals as goal
use Rattle.xc_report.proofs.numbered.numbered_report.Goals.{in-Some-2+in_ok-keyed+in_ok-place_fact+in_ok-push, in_default}

pub loop-id-init : goal.loop-id-init
loop-id-init c =
    let same : c.into_iter-id-iterator.result ≡ c.args.members.entries = search rules in
    record {
      can = tt;
      ends = tt;
      names = none_gained c.args.names.now;
      facts = (
        [],
        ap (λ es. facts_of (known_view c.args.known.now) (members_view es)) same,
        subst (λ fs. AreGathered (all_names c.args.names.now) [] fs c.new-keys.result) (sym c.new-facts.ensures.items) (subst (AreGathered (all_names c.args.names.now) [] []) (sym c.new-keys.ensures) (none_gathered (all_names c.args.names.now))),
      );
      fault = ap (λ es. first (faults_of (known_view c.args.known.now) (members_view es))) (sym same);
    }

pub loop-id-preserved : goal.loop-id-preserved
loop-id-preserved c =
    let known = known_view c.args.known.now in
    let all = members_view c.args.members.entries in
    let here : c.loop-id.id-iterator ≡ (c.in-Some.id, c.in-Some.member) ∷ c.next.new.self = search rules in
    let is : stated_fact known (string_bytes c.in-Some.id, view c.in-Some.member) ≡ Ok c.in_ok-fact.field-0 = search rules in
    record {
      can = tt;
      ends = tt;
      names = elim c.match-branch-2.branch [
        | in-Some-2+in_ok-keyed+in_ok-place_fact+in_ok-push w ↦ subst (MayGain c.args.names.now) (sym w.names-is) (gain_on c.loop-id.invariant.names w.keyed_fact.ensures.names)
        | in_default w ↦ subst (MayGain c.args.names.now) (sym w.names-is) c.loop-id.invariant.names
      ];
      facts = elim c.match-branch-2.branch [
        | in-Some-2+in_ok-keyed+in_ok-place_fact+in_ok-push w ↦
            let fact = w.in-Some-2.fact in
            let keyed = w.in_ok-keyed.keyed in
            fact_read known all c.loop-id.id-iterator c.next.new.self c.in-Some.id c.in-Some.member here (all_names c.loop-id.names) (all_names c.match-branch-2.names)
            c.loop-id.facts.items c.match-branch-2.facts.items c.loop-id.keys c.match-branch-2.keys fact keyed w.in_ok-place_fact.field-0 (is ∙ ap Ok w.in-Some-2.is)
            (subst (λ names. KeepsNumbers (all_names c.loop-id.names) (all_names names)) (sym w.names-is) w.keyed_fact.ensures.names.kept)
            (subst (λ names. Lasts (all_names names) (λ later. IsKeyed later fact keyed)) (sym w.names-is) w.in_ok-keyed.ensures.fact)
            (w.keys-is ∙ w.in_ok-place_fact.ensures.keys)
            (w.in_ok-place_fact.ensures.fact ∙ ap (λ ks. numbered_in ks keyed) (sym w.keys-is))
            (ap (λ (v : Vec Fact Global). v.items) w.facts-is ∙ w.in_ok-push.ensures.items)
            c.loop-id.invariant.facts
        | in_default w ↦ left_out known all c.loop-id.id-iterator c.next.new.self c.in-Some.id c.in-Some.member here (all_names c.loop-id.names) (all_names c.match-branch-2.names)
            c.loop-id.facts.items c.match-branch-2.facts.items c.loop-id.keys c.match-branch-2.keys (is ∙ ap Ok w.in_default.is)
            (ap all_names w.names-is) (ap (λ (v : Vec Fact Global). v.items) w.facts-is) w.keys-is c.loop-id.invariant.facts
      ];
      fault = no_fault known all c.loop-id.id-iterator c.next.new.self c.in-Some.id c.in-Some.member here c.in_ok-fact.field-0 is c.loop-id.invariant.fault;
    }

pub returns-clause-ascending : goal.returns-clause-ascending
returns-clause-ascending c =
    stated_ascend (known_view c.args.known.now) c.args.members.entries c.into_iter-id-iterator.ensures.into_iter_gives.5
