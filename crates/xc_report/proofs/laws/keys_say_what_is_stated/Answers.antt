use Rattle.xc_report.proofs.KeysSaid.{keys_said}
use Rattle.xc_report.proofs.laws.keys_say_what_is_stated.Goals as goal

pub returns : goal.returns
returns c = keys_said c.numbers_tell_names.ensures
