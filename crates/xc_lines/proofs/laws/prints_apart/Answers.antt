use Rattle.xc_lines.proofs.Words.{apart}
use Rattle.xc_lines.proofs.laws.prints_apart.Goals as goal

pub returns : goal.returns
returns c = apart
