use Rattle.std.proofs.Common.{◌∙◌, ap, sym, Some}
use Rattle.serde_json.proofs.Views.{view-Object}
use Rattle.serde_json.specs.View.{view}
use Rattle.xc_report.proofs.drafts.object_of.Goals as goal
use Rattle.xc_report.specs.Opened.{members_or_none}

pub returns-in-Object : goal.returns-in-Object
returns-in-Object c = sym (ap (λ d. members_or_none (Some d)) (ap view c.in-Object.is ∙ view-Object c.in-Object.members))
