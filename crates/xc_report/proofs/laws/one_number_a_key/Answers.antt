use Rattle.std.proofs.Common.{ap}
use Rattle.xc_report.specs.Dimensions.{key_number}
use Rattle.xc_report.proofs.KeyLaws.{same_from_number}
use Rattle.xc_report.proofs.laws.one_number_a_key.Goals as goal

pub returns : goal.returns
returns c = λ keys a b here there. (same_from_number keys a b here there, ap (key_number keys))
