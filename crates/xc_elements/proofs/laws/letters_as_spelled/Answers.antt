use Rattle.xc_elements.proofs.Grammar.Letters.{letter_holds}
use Rattle.xc_elements.proofs.laws.letters_as_spelled.Goals as goal

pub returns : goal.returns
returns c = letter_holds
