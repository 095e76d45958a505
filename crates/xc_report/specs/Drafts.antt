-- What a draft holds.
use Rattle.std.specs.Prelude.{codes}
use Rattle.serde_json.specs.Find.{get}
use Rattle.serde_json.specs.View.{view}
use Rattle.xc_report.specs.Opened.{Opened, members_or_none}
use Rattle.xc_report.specs.declared.drafts.Draft.{Draft}

-- what the facts of a draft are read from
abbrev pub draft_view : Draft → Opened
draft_view draft = record { prefixes = draft.prefixes; facts = members_or_none (get (codes "facts") (view draft.report)) }
