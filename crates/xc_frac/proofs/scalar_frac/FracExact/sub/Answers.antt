use Rattle.xc_model.proofs.NumbersOver.{difference_of_fits}
use Rattle.xc_frac.proofs.PartsOver.{fraction_difference_over, ok_unless}
use Rattle.xc_frac.proofs.scalar_frac.FracExact.sub.Goals as goal

pub returns-clause-over : goal.returns-clause-over
returns-clause-over c a b d left right = fraction_difference_over c.args.self c.args.other c.sub.result a b d c.sub.ensures.exact left right

pub returns-clause-room : goal.returns-clause-room
returns-clause-room c a b d left right fit = ok_unless c.sub.result _ c.sub.ensures.passes (difference_of_fits c.args.self c.args.other a.real b.real d left.real right.real fit.real)
