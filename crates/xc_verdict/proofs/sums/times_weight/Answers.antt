use Rattle.xc_verdict.proofs.Weighted.{one_holds, one_counted, minus_holds, minus_counted, zero_holds, zero_counted_times}
use Rattle.std.specs.Prelude.{pos}
use Rattle.xc_model.specs.Fraction.{whole}
use Rattle.xc_model.proofs.Numbers.{same-refl}
use Rattle.xc_verdict.proofs.sums.times_weight.Goals as goal

pub returns-then-is_whole-clause-numbers : goal.returns-then-is_whole-clause-numbers
returns-then-is_whole-clause-numbers c =
    let is = c.is_whole.ensures.0 c.if-is_whole.true in
    one_holds c.args.weight is.0 is.1 c.args.interval.now

pub returns-then-is_whole-clause-counted : goal.returns-then-is_whole-clause-counted
returns-then-is_whole-clause-counted c =
    let is = c.is_whole.ensures.0 c.if-is_whole.true in
    one_counted c.args.weight is.0 is.1 c.args.interval.now

pub returns-then-is_whole-2-clause-numbers : goal.returns-then-is_whole-2-clause-numbers
returns-then-is_whole-2-clause-numbers c =
    let is = c.is_whole-2.ensures.0 c.if-is_whole-2.true in
    minus_holds c.args.weight is.0 is.1 c.args.interval.now c.negated.result (c.negated.ensures.numbers (λ f. same-refl (whole (pos 0))))

pub returns-then-is_whole-2-clause-counted : goal.returns-then-is_whole-2-clause-counted
returns-then-is_whole-2-clause-counted c =
    let is = c.is_whole-2.ensures.0 c.if-is_whole-2.true in
    minus_counted c.args.weight is.0 is.1 c.args.interval.now c.negated.result c.negated.ensures.ends

pub returns-then-is_whole-3-clause-numbers : goal.returns-then-is_whole-3-clause-numbers
returns-then-is_whole-3-clause-numbers c =
    let is = c.is_whole-3.ensures.0 c.if-is_whole-3.true in
    zero_holds c.ends_tell.ensures.numbers c.args.weight is.0 is.1 c.args.interval.now c.zero_interval.result c.requires.some c.zero_interval.ensures.numbers

pub returns-then-is_whole-3-clause-counted : goal.returns-then-is_whole-3-clause-counted
returns-then-is_whole-3-clause-counted c = zero_counted_times c.args.weight c.args.interval.now c.zero_interval.result c.zero_interval.ensures.counted
