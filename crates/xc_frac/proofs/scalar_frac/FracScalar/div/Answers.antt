use Rattle.xc_frac.proofs.PartsOver.{fraction_quotient_over}
use Rattle.xc_frac.proofs.scalar_frac.FracScalar.div.Goals as goal

pub returns-clause-over : goal.returns-clause-over
returns-clause-over c n m p d e k left right made = fraction_quotient_over c.args.self c.args.other n m p d e k left right c.div.result made c.div.ensures.exact
