use Rattle.xc_interval.proofs.Multiples.{multiples}
use Rattle.xc_interval.proofs.laws.multiples.Goals as goal

pub returns : goal.returns
returns c = multiples
