-- What a run writes and how it ends, where a document is refused or cannot be read.
use Rattle.std.specs.Prelude.{ℕ, List, Option, Some, None, decimal, option_map}
use Rattle.xc_calc.specs.Codes as link
use Rattle.xc_calc.specs.declared.fault.LinkFault.{LinkFault}
use Rattle.xc_cert.specs.Codes as certificate
use Rattle.xc_cert.specs.declared.fault.CertFault.{CertFault}
use Rattle.xc_concepts.specs.Codes as schema
use Rattle.xc_concepts.specs.declared.fault.SchemaFault.{SchemaFault}
use Rattle.xc_elements.specs.Codes as tree
use Rattle.xc_elements.specs.declared.fault.TreeFault.{TreeFault}
use Rattle.xc_lines.specs.Lines.{read_fault_line, refusal_line, placed_refusal_line}
use Rattle.xc_names.specs.Codes as names
use Rattle.xc_names.specs.declared.expansion.NameFault.{NameFault}
use Rattle.xc_report.specs.Codes as report
use Rattle.xc_report.specs.declared.reports.ReportFault.{ReportFault}
use Rattle.xc_top.specs.declared.status.Answer.{Answer}
use Rattle.xc_top.specs.declared.status.Status.{Status}
use Rattle.xc_top.specs.declared.status.Status.TheVariants.{Refused, ReadFault}

-- this text is written, and the run ends so
abbrev pub make_answer : Status → List ℕ → Answer
make_answer s text = record { status = s; text = text }

-- a file that could not be read
abbrev pub unread : List ℕ → Answer
unread word = make_answer ReadFault (read_fault_line word)

-- a document that is refused
abbrev pub refused : List ℕ → List ℕ → Answer
refused word code = make_answer Refused (refusal_line word code)

-- a document that is refused, with the place of the fault in it
abbrev pub refused_at : List ℕ → List ℕ → List ℕ → Answer
refused_at word code place = make_answer Refused (placed_refusal_line word code place)

-- a document that is refused, by the code of its fault and the place beside it, where it has one
abbrev pub refused_by : List ℕ → Option (List ℕ) → List ℕ → Answer
refused_by word None code = refused word code
refused_by word (Some place) code = refused_at word code place

-- what is answered of a fault by its code; want of memory has none
abbrev pub refusal : List ℕ → Option (List ℕ) → Option (List ℕ) → Option Answer
refusal word code place = option_map (refused_by word place) code

-- the same where the place is a number
abbrev pub numbered_refusal : List ℕ → Option (List ℕ) → Option ℕ → Option Answer
numbered_refusal word code place = refusal word code (option_map decimal place)

-- what is answered of a fault in a document's elements, by the byte at which it stands
abbrev pub tree_refusal : List ℕ → TreeFault → Option Answer
tree_refusal word fault = numbered_refusal word (tree.code_of fault) (tree.place_of fault)

-- what is answered of a rule that a schema breaks, by the node at which it does
abbrev pub schema_refusal : List ℕ → SchemaFault → Option Answer
schema_refusal word fault = numbered_refusal word (schema.code_of fault) (schema.place_of fault)

-- what is answered of a rule that a linkbase breaks, by the node of the arc element or of the locator
abbrev pub link_refusal : List ℕ → LinkFault → Option Answer
link_refusal word fault = numbered_refusal word (link.code_of fault) (link.place_of fault)

-- what is answered of a fault of a report, by the part that is wrong or by the id of the fact
abbrev pub report_refusal : List ℕ → ReportFault → Option Answer
report_refusal word fault = refusal word (report.code_of fault) (report.place_of fault)

-- what is answered of a fault of a name that the report is asked for, with the word in which it stands
abbrev pub name_refusal : List ℕ → NameFault → List ℕ → Option Answer
name_refusal word fault name = refusal word (names.code_of fault) (Some name)

-- what is answered of a text that is no certificate, by the line that fits nowhere
abbrev pub certificate_refusal : List ℕ → CertFault → Option Answer
certificate_refusal word fault = numbered_refusal word (certificate.code_of fault) (certificate.place_of fault)
