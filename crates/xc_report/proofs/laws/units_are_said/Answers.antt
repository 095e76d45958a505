use Rattle.xc_report.proofs.RuleUnits.{unit_told}
use Rattle.xc_report.proofs.laws.units_are_said.Goals as goal

pub returns : goal.returns
returns c = unit_told
