use Rattle.xc_verdict.proofs.Counted.{no_product}
use Rattle.xc_verdict.proofs.Weighted.{other_holds, other_counted, weight_some}
use Rattle.xc_verdict.proofs.sums.times_nonzero_weight.Goals as goal

pub scaled-requires : goal.scaled-requires
scaled-requires c = weight_some c.args.weight c.to_frac.result c.to_frac.ensures.over c.requires.not_zero

pub unreachable-requires : goal.unreachable-requires
unreachable-requires c = no_product c.args.interval.now c.args.weight c.to_frac.result c.in-Err.field-0 c.to_frac.ensures.exact c.requires.room c.in-Err.ensures.passes

pub returns-clause-numbers : goal.returns-clause-numbers
returns-clause-numbers c = other_holds c.args.weight c.to_frac.result c.to_frac.ensures.exact c.args.interval.now c.in-Ok.product c.in-Ok.ensures.numbers

pub returns-clause-counted : goal.returns-clause-counted
returns-clause-counted c =
    other_counted c.args.weight c.to_frac.result c.to_frac.ensures.exact c.args.interval.now c.in-Ok.product (weight_some c.args.weight c.to_frac.result c.to_frac.ensures.over c.requires.not_zero) c.in-Ok.ensures.ends
