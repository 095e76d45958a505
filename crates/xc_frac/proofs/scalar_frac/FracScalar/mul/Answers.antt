use Rattle.xc_frac.proofs.PartsOver.{fraction_product_over}
use Rattle.xc_frac.proofs.scalar_frac.FracScalar.mul.Goals as goal

pub returns-clause-over : goal.returns-clause-over
returns-clause-over c n m p d e k left right made = fraction_product_over c.args.self c.args.other n m p d e k left right c.mul.result made c.mul.ensures.exact
