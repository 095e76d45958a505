use Rattle.std.proofs.Common.{◌∙◌, rules}
use Rattle.xc_elements.proofs.StepLaws.{plain_begins}
use Rattle.xc_elements.proofs.names.plain_name.Goals as goal

pub returns-then-is_name_start : goal.returns-then-is_name_start
returns-then-is_name_start c = c.run.ensures ∙ plain_begins _ _ _ c.in-Some.ensures.value (search rules)
