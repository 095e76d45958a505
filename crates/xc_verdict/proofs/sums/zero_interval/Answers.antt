use Rattle.xc_model.specs.Ratio.{fraction_of}
use Rattle.xc_verdict.proofs.Weighted.{only_zero, zero_only, zero_counted}
use Rattle.xc_verdict.proofs.sums.zero_interval.Goals as goal

pub returns-clause-numbers : goal.returns-clause-numbers
returns-clause-numbers c = λ x. (λ has. only_zero (fraction_of c.zero-zero.result) x c.zero-zero.ensures.real has, λ same. zero_only (fraction_of c.zero-zero.result) x c.zero-zero.ensures.real same)

pub returns-clause-counted : goal.returns-clause-counted
returns-clause-counted c = λ unit some. record { low = zero_counted c.zero-zero.result unit c.zero-zero.ensures.real some; high = zero_counted c.zero-zero.result unit c.zero-zero.ensures.real some }
