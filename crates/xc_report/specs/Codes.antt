-- The printed codes of the faults of reports, and their places.
use Rattle.std.specs.Prelude.{ℕ, List, codes, Option, Some, None}
use Rattle.xc_report.specs.declared.reports.Member.{Member}
use Rattle.xc_report.specs.declared.reports.Member.TheVariants.{Root, DocumentInfo, DocumentType, Namespaces, Facts}
use Rattle.xc_report.specs.declared.reports.ReportFault.{ReportFault}
use Rattle.xc_report.specs.declared.reports.ReportFault.TheVariants.{Memory, NotJson, NotReport, BadName, BadValue, BadDecimals}

-- the name of a part of a report
abbrev pub member_name : Member → List ℕ
member_name Root = codes "root"
member_name DocumentInfo = codes "documentInfo"
member_name DocumentType = codes "documentType"
member_name Namespaces = codes "namespaces"
member_name Facts = codes "facts"

-- the code of a fault; want of memory has none
abbrev pub code_of : ReportFault → Option (List ℕ)
code_of Memory = None
code_of NotJson = Some (codes "xc:notJson")
code_of (NotReport part) = Some (codes "xc:notReport")
code_of (BadName id) = Some (codes "xc:badName")
code_of (BadValue id) = Some (codes "xc:badValue")
code_of (BadDecimals id) = Some (codes "xc:badDecimals")

-- the part that is wrong, or the id of the fact
abbrev pub place_of : ReportFault → Option (List ℕ)
place_of Memory = None
place_of NotJson = None
place_of (NotReport part) = Some (member_name part)
place_of (BadName id) = Some id
place_of (BadValue id) = Some id
place_of (BadDecimals id) = Some id
