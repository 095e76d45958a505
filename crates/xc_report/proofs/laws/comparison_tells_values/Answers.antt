use Rattle.xc_report.proofs.KeyLaws.{comparison_tells_values}
use Rattle.xc_report.proofs.laws.comparison_tells_values.Goals as goal

pub returns : goal.returns
returns c = comparison_tells_values
