use Rattle.xc_elements.proofs.Grammar.Instructions.{instruction_holds}
use Rattle.xc_elements.proofs.laws.instructions_as_spelled.Goals as goal

pub returns : goal.returns
returns c = instruction_holds
