use Rattle.xc_report.proofs.KeyLaws.{keys_tell_values}
use Rattle.xc_report.proofs.SaidKeys.{keys_alike}
use Rattle.xc_report.proofs.laws.keys_are_of_names.Goals as goal

pub returns : goal.returns
returns c = keys_alike keys_tell_values c.numbers_tell_names.ensures
