-- What is answered of bytes as a report, before its facts are read (xBRL-JSON 1.0, the root object and `documentInfo`).
use Rattle.std.specs.Prelude.{ℕ, List, [], Bool, true, codes, Option, Some, None, Result, Ok, Err, is_some, unwrap_or, option_and_then, if◌then◌else◌}
use Rattle.std.specs.FinMap.{insert, empty}
use Rattle.serde_json.specs.Data.{Data, Members, no_members, member}
use Rattle.serde_json.specs.Find.{get, as_str, as_object}
use Rattle.xc_names.specs.Prefixes.{Bindings}
use Rattle.xc_report.specs.Json.{json_of, has_json_type, are_texts}
use Rattle.xc_report.specs.declared.reports.ReportFault.{ReportFault}
use Rattle.xc_report.specs.declared.reports.ReportFault.TheVariants.{NotJson, NotReport}
use Rattle.xc_report.specs.declared.reports.Member.{Member}
use Rattle.xc_report.specs.declared.reports.Member.TheVariants as part

-- what facts are read from: what prefixes stand for, and the members of `facts`
pub record Opened : Type 0 where
  pub prefixes : Bindings
  pub facts : Members

-- the text of a member that is one, else the empty text
abbrev pub text_of : Data → List ℕ
text_of d = unwrap_or (as_str d) []

-- prefixes with those that further members declare
abbrev pub declared_after : Bindings → Members → Bindings
declared_after prefixes no_members = prefixes
declared_after prefixes (member prefix uri rest) = declared_after (insert prefixes prefix (text_of uri)) rest

-- what prefixes stand for: each member of `namespaces` binds its name to its text
abbrev pub declared_by : Members → Bindings
declared_by members = declared_after empty members

-- the members of an object, or none
abbrev pub or_none : Option Members → Members
or_none None = no_members
or_none (Some ms) = ms

-- the members of an object that may be missing
abbrev pub members_or_none : Option Data → Members
members_or_none d = or_none (option_and_then as_object d)

-- a value that may be missing, and is else an object
abbrev pub is_object_or_missing : Option Data → Bool
is_object_or_missing None = true
is_object_or_missing (Some d) = is_some (as_object d)

-- a value that may be missing, and is else an object of texts
abbrev pub are_texts_or_missing : Option Data → Bool
are_texts_or_missing None = true
are_texts_or_missing (Some d) = are_texts (as_object d)

-- the first part of a report that is not as it has to be
abbrev pub first_wrong : Data → Option Data → Option Member
first_wrong report None = if is_some (as_object report) then Some part.DocumentInfo else Some part.Root
first_wrong report (Some info) =
    if is_some (as_object info) then
    if has_json_type info then
    if are_texts_or_missing (get (codes "namespaces") info) then
    if is_object_or_missing (get (codes "facts") report) then None else Some part.Facts
    else Some part.Namespaces
    else Some part.DocumentType
    else Some part.DocumentInfo

-- the namespaces that a report declares
abbrev pub namespaces_in : Option Data → Members
namespaces_in None = no_members
namespaces_in (Some info) = members_or_none (get (codes "namespaces") info)

-- what facts are read from, in a report
abbrev pub opened_of : Data → Opened
opened_of report = record { prefixes = declared_by (namespaces_in (get (codes "documentInfo") report)); facts = members_or_none (get (codes "facts") report) }

-- the report, where no part of it is wrong
abbrev pub opened_unless : Data → Option Member → Result Opened ReportFault
opened_unless report None = Ok (opened_of report)
opened_unless report (Some wrong) = Err (NotReport wrong)

-- what is answered of a JSON value
abbrev pub opened_data : Option Data → Result Opened ReportFault
opened_data None = Err NotJson
opened_data (Some report) = opened_unless report (first_wrong report (get (codes "documentInfo") report))

-- what is answered of bytes
abbrev pub opened : List ℕ → Result Opened ReportFault
opened bytes = opened_data (json_of bytes)
