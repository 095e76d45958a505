use Rattle.xc_model.proofs.NumbersOver.{sum_of_fits}
use Rattle.xc_frac.proofs.PartsOver.{fraction_sum_over, ok_unless}
use Rattle.xc_frac.proofs.scalar_frac.FracExact.add.Goals as goal

pub returns-clause-over : goal.returns-clause-over
returns-clause-over c a b d left right = fraction_sum_over c.args.self c.args.other c.add.result a b d c.add.ensures.exact left right

pub returns-clause-room : goal.returns-clause-room
returns-clause-room c a b d left right fit = ok_unless c.add.result _ c.add.ensures.passes (sum_of_fits c.args.self c.args.other a.real b.real d left.real right.real fit.real)
