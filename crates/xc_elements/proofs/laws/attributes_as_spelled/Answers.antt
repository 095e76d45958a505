use Rattle.xc_elements.proofs.Grammar.Attributes.{attribute_holds}
use Rattle.xc_elements.proofs.laws.attributes_as_spelled.Goals as goal

pub returns : goal.returns
returns c = attribute_holds
