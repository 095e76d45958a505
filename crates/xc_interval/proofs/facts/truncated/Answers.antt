use Rattle.std.proofs.Common.{◌≡◌, pos, arith}
use Rattle.std.specs.Prelude.{◌<ℤ◌}
use Rattle.std.proofs.lemmas.Int.{ints}
use Rattle.std.proofs.lemmas.Result.{IfOk-weaker}
use Rattle.xc_interval.specs.Intervals.{numbers_of}
use Rattle.xc_interval.proofs.Passing.{above_ends, below_ends, around_ends, above_passes, below_passes, above_fits, below_fits, fit_zero}
use Rattle.xc_interval.proofs.facts.truncated.Goals as goal

pub returns-then-num-gt0-clause-ends : goal.returns-then-num-gt0-clause-ends
returns-then-num-gt0-clause-ends c d same =
    let positive : pos 0 <ℤ c.args.value.num = omega (arith, ints, c.if-num-gt0.true, c.num.ensures.num) in
    IfOk-weaker c.above.result _ _ (λ i. above_ends d c.args.value c.args.unit same positive (numbers_of i)) c.above.ensures.ends

pub returns-then-num-gt0-clause-fits : goal.returns-then-num-gt0-clause-fits
returns-then-num-gt0-clause-fits c d same =
    let positive : pos 0 <ℤ c.args.value.num = omega (arith, ints, c.if-num-gt0.true, c.num.ensures.num) in
    above_fits d c.args.value c.args.unit same c.above.result positive c.above.ensures.fits

pub returns-then-num-gt0-clause-passes : goal.returns-then-num-gt0-clause-passes
returns-then-num-gt0-clause-passes c d same =
    let positive : pos 0 <ℤ c.args.value.num = omega (arith, ints, c.if-num-gt0.true, c.num.ensures.num) in
    above_passes d c.args.value c.args.unit same c.above.result positive c.above.ensures.passes

pub returns-then-num-lt0-clause-ends : goal.returns-then-num-lt0-clause-ends
returns-then-num-lt0-clause-ends c d same =
    let negative : c.args.value.num <ℤ pos 0 = omega (arith, ints, c.if-num-lt0.true, c.num-2.ensures.num) in
    IfOk-weaker c.below.result _ _ (λ i. below_ends d c.args.value c.args.unit same negative (numbers_of i)) c.below.ensures.ends

pub returns-then-num-lt0-clause-fits : goal.returns-then-num-lt0-clause-fits
returns-then-num-lt0-clause-fits c d same =
    let negative : c.args.value.num <ℤ pos 0 = omega (arith, ints, c.if-num-lt0.true, c.num-2.ensures.num) in
    below_fits d c.args.value c.args.unit same c.below.result negative c.below.ensures.fits

pub returns-then-num-lt0-clause-passes : goal.returns-then-num-lt0-clause-passes
returns-then-num-lt0-clause-passes c d same =
    let negative : c.args.value.num <ℤ pos 0 = omega (arith, ints, c.if-num-lt0.true, c.num-2.ensures.num) in
    below_passes d c.args.value c.args.unit same c.below.result negative c.below.ensures.passes

pub returns-clause-ends : goal.returns-clause-ends
returns-clause-ends c d same =
    let zero_ : c.args.value.num ≡ pos 0 = omega (arith, ints, c.if-num-gt0.false, c.if-num-lt0.false, c.num.ensures.num, c.num-2.ensures.num) in
    around_ends d c.args.value c.args.unit same zero_ (numbers_of c.around.result) c.around.ensures

pub returns-clause-fits : goal.returns-clause-fits
returns-clause-fits c d same w =
    let zero_ : c.args.value.num ≡ pos 0 = omega (arith, ints, c.if-num-gt0.false, c.if-num-lt0.false, c.num.ensures.num, c.num-2.ensures.num) in
    fit_zero d c.args.value c.args.value.num w zero_
