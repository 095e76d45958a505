use Rattle.xc_report.proofs.RuleFacts.{facts_said, fault_first}
use Rattle.xc_report.proofs.laws.facts_are_said.Goals as goal

pub returns-clause-facts : goal.returns-clause-facts
returns-clause-facts c = facts_said

pub returns-clause-faults : goal.returns-clause-faults
returns-clause-faults c = fault_first
