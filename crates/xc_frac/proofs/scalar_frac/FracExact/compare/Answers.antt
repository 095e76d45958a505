use Rattle.xc_model.specs.Ratio.{fraction_of}
use Rattle.xc_frac.proofs.PartsOver.{fraction_order_over}
use Rattle.xc_frac.proofs.scalar_frac.FracExact.compare.Goals as goal

pub returns-clause-over : goal.returns-clause-over
returns-clause-over c a b d left right = fraction_order_over c.compare.result (fraction_of c.args.self) (fraction_of c.args.other) a b d c.compare.ensures.exact left right
