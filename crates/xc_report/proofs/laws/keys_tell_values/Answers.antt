use Rattle.xc_report.proofs.KeyLaws.{keys_tell_values}
use Rattle.xc_report.proofs.laws.keys_tell_values.Goals as goal

pub returns : goal.returns
returns c = keys_tell_values
