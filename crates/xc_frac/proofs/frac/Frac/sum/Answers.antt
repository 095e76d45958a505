use Rattle.xc_frac.proofs.QuickSums.{zero_sum_is, zero_sum_fits, sum_zero_is, sum_zero_fits}
use Rattle.xc_frac.proofs.frac.Frac.sum.Goals as goal

pub returns-then-is_zero-clause-exact : goal.returns-then-is_zero-clause-exact
returns-then-is_zero-clause-exact c = zero_sum_is c.args.self c.args.other (c.is_zero.ensures.0 c.if-is_zero.true)

pub returns-then-is_zero-clause-fits : goal.returns-then-is_zero-clause-fits
returns-then-is_zero-clause-fits c = zero_sum_fits c.args.self c.args.other (c.is_zero.ensures.0 c.if-is_zero.true)

pub returns-then-is_zero-2-clause-exact : goal.returns-then-is_zero-2-clause-exact
returns-then-is_zero-2-clause-exact c = sum_zero_is c.args.self c.args.other (c.is_zero-2.ensures.0 c.if-is_zero-2.true)

pub returns-then-is_zero-2-clause-fits : goal.returns-then-is_zero-2-clause-fits
returns-then-is_zero-2-clause-fits c = sum_zero_fits c.args.self c.args.other (c.is_zero-2.ensures.0 c.if-is_zero-2.true)
