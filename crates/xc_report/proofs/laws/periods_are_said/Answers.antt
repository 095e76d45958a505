use Rattle.xc_report.proofs.RulePeriods.{period_told, days_told}
use Rattle.xc_report.proofs.laws.periods_are_said.Goals as goal

pub returns-clause-periods : goal.returns-clause-periods
returns-clause-periods c = period_told

pub returns-clause-days : goal.returns-clause-days
returns-clause-days c = days_told
