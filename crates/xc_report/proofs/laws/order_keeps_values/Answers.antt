use Rattle.xc_report.proofs.KeyValues.{order_keeps_values}
use Rattle.xc_report.proofs.laws.order_keeps_values.Goals as goal

pub returns : goal.returns
returns c = order_keeps_values
