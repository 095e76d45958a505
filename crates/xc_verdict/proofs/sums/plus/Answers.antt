use Rattle.std.specs.Prelude.{pos}
use Rattle.xc_model.specs.Fraction.{whole}
use Rattle.xc_model.proofs.Numbers.{same-refl}
use Rattle.xc_verdict.proofs.Counted.{no_sum, sum_counted}
use Rattle.xc_verdict.proofs.sums.plus.Goals as goal

pub unreachable-requires : goal.unreachable-requires
unreachable-requires c = no_sum c.args.one.now c.args.other.now c.in-Err.field-0 c.requires.room c.in-Err.ensures.passes

pub returns-clause-numbers : goal.returns-clause-numbers
returns-clause-numbers c = c.in-Ok.ensures.numbers (λ f. same-refl (whole (pos 0)))

pub returns-clause-counted : goal.returns-clause-counted
returns-clause-counted c = λ unit n m left right. sum_counted unit n m c.args.one.now c.args.other.now c.in-Ok.sum c.in-Ok.ensures.ends left right
