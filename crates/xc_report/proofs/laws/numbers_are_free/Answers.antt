use Rattle.xc_report.proofs.RenamedFacts.{facts_renamed}
use Rattle.xc_report.proofs.RenamedReports.{report_renamed}
use Rattle.xc_report.proofs.laws.numbers_are_free.Goals as goal

pub returns : goal.returns
returns c = record { stated = facts_renamed; facts = report_renamed c.keys_are_of_names.ensures }
