use Rattle.xc_elements.proofs.Grammar.Values.{value_holds}
use Rattle.xc_elements.proofs.laws.values_as_spelled.Goals as goal

pub returns : goal.returns
returns c = value_holds
