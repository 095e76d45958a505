use Rattle.xc_report.proofs.RuleNames.{name_told, entity_told}
use Rattle.xc_report.proofs.laws.names_are_said.Goals as goal

pub returns-clause-names : goal.returns-clause-names
returns-clause-names c = name_told

pub returns-clause-entities : goal.returns-clause-entities
returns-clause-entities c = entity_told
