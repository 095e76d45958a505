use Rattle.xc_elements.proofs.Grammar.References.{reference_holds}
use Rattle.xc_elements.proofs.laws.references_as_spelled.Goals as goal

pub returns : goal.returns
returns c = reference_holds
