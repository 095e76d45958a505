use Rattle.xc_model.specs.Ratio.{fraction_of}
use Rattle.xc_frac.proofs.PartsOver.{fraction_neg_over}
use Rattle.xc_frac.proofs.scalar_frac.FracExact.neg.Goals as goal

pub returns-clause-over : goal.returns-clause-over
returns-clause-over c a d over = fraction_neg_over (fraction_of c.args.self) (fraction_of c.neg.result) a d c.neg.ensures.exact over
