use Rattle.std.proofs.Common.{◌≡◌, ◌∙◌, ◌++◌, ap, ap₂, sym, subst, Ok, codes}
use Rattle.serde_json.specs.Find.{get}
use Rattle.serde_json.specs.View.{view, members_view}
use Rattle.xc_names.specs.Names.{AreNumbered}
use Rattle.xc_report.proofs.drafts.Draft.read.Goals as goal
use Rattle.xc_report.specs.Opened.{members_or_none}
use Rattle.xc_report.specs.Reports.{StatedIdsAscend}
use Rattle.xc_report.specs.StatedFacts.{facts_of}
use Rattle.xc_report.specs.Steps.{TellsReport, known_view}
use Rattle.xc_report.specs.Steps.Gained.{all_names}
use Rattle.xc_report.specs.Wanted.{known_of}

pub returns : goal.returns
returns c =
    let known = known_of c.args.self.prefixes c.args.names.now c.args.wanted.now in
    let members = members_or_none (get (codes "facts") (view c.args.self.report)) in
    let report = c.in_ok-report.report in
    let read : members_view c.object_in-members.result.entries ≡ members = c.object_in-members.ensures ∙ ap members_or_none c.member_in.ensures in
    let is_known : known_view c.in_ok-known.known ≡ known = c.in_ok-known.ensures in
    let names : all_names c.numbered_report.new.names ≡ c.args.names.now ++ c.into_gained.result =
    ap₂ (λ there gained. there ++ gained) (c.numbered_report.ensures.names.there ∙ c.new-gained.ensures.there) (sym c.into_gained.ensures.gained) in
    record {
      report = (
        subst (λ n. TellsReport (Ok report) known members n) names
            (subst (λ ms. TellsReport (Ok report) known ms (all_names c.numbered_report.new.names)) read
            (subst (λ k. TellsReport (Ok report) k (members_view c.object_in-members.result.entries) (all_names c.numbered_report.new.names)) is_known c.in_ok-report.ensures.report)),
        subst (λ ms. StatedIdsAscend (facts_of known ms)) read (subst (λ k. StatedIdsAscend (facts_of k (members_view c.object_in-members.result.entries))) is_known c.in_ok-report.ensures.ascending),
        subst AreNumbered names c.into_gained.ensures.numbered,
      );
    }
