use Rattle.std.proofs.Common.{◌++◌, subst, sym, codes}
use Rattle.serde_json.specs.Find.{get}
use Rattle.serde_json.specs.View.{view}
use Rattle.xc_names.specs.Names.{KeepsNumbers}
use Rattle.xc_report.proofs.Gathered.{facts_read}
use Rattle.xc_report.proofs.ReportFacts.{ids_ascend, keys_stand_once, keys_ascend, facts_have_keys}
use Rattle.xc_report.proofs.drafts.Draft.facts.Goals as goal
use Rattle.xc_report.specs.Opened.{members_or_none}
use Rattle.xc_report.specs.Wanted.{known_of}

pub returns-clause-facts : goal.returns-clause-facts
returns-clause-facts c =
    let known = known_of c.args.self.prefixes c.args.names.now c.args.wanted.now in
    let members = members_or_none (get (codes "facts") (view c.args.self.report)) in
    let names = c.args.names.now ++ c.in_ok-report.gained in
    facts_read known members names c.add_gained.new.names c.in_ok-report.report c.in_ok-report.ensures.report.0
    (subst (λ later. KeepsNumbers names later) (sym c.in_ok-add_gained.ensures.names) (λ space local number h. h))

pub returns-clause-ascending : goal.returns-clause-ascending
returns-clause-ascending c = ids_ascend _ _ _ (c.in_ok-report.ensures.report.0.1 _ (λ space local number h. h)) c.in_ok-report.ensures.report.1

pub returns-clause-keys : goal.returns-clause-keys
returns-clause-keys c = facts_have_keys _ _ _ (c.in_ok-report.ensures.report.0.1 _ (λ space local number h. h))

pub returns-clause-once : goal.returns-clause-once
returns-clause-once c = keys_stand_once _ _ _ (c.in_ok-report.ensures.report.0.1 _ (λ space local number h. h))

pub returns-clause-ordered : goal.returns-clause-ordered
returns-clause-ordered c = keys_ascend _ _ _ (c.in_ok-report.ensures.report.0.1 _ (λ space local number h. h))
