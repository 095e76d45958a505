use Rattle.xc_elements.proofs.Grammar.Declarations.{declaration_holds}
use Rattle.xc_elements.proofs.laws.declarations_as_spelled.Goals as goal

pub returns : goal.returns
returns c = declaration_holds
