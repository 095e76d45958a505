use Rattle.xc_lines.proofs.Words.{one_word}
use Rattle.xc_lines.proofs.laws.prints_one_word.Goals as goal

pub returns : goal.returns
returns c = one_word
