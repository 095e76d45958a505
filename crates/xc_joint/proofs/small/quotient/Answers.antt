use Rattle.std.proofs.Common.{◌*◌, ◌-ℤ◌, refl, arith}
use Rattle.xc_joint.proofs.Bounded.{quotient_bounds, span_some}
use Rattle.xc_joint.proofs.Rooms.{all_small, bound_over, divided, in_order, not_err, powers, real_gap, tiny_gap}
use Rattle.xc_model.specs.Ratio.{fraction_of}
use Rattle.xc_joint.proofs.small.quotient.Goals as goal

pub div-requires : goal.div-requires
div-requires c = span_some c.in_ok-span.span (fraction_of c.args.higher) (fraction_of c.args.lower) c.in_ok-span.ensures.exact (c.if-not-exceeds-2.ensures.0 refl)

pub returns-clause-bounds : goal.returns-clause-bounds
returns-clause-bounds c =
    quotient_bounds c.in_ok-bound.bound c.in_ok-gap.gap c.in_ok-span.span (fraction_of c.args.greater) (fraction_of c.args.lesser) (fraction_of c.args.higher) (fraction_of c.args.lower)
    c.in_ok-gap.ensures.exact c.in_ok-span.ensures.exact c.in_ok-bound.ensures.exact (c.if-not-exceeds.ensures.0 refl) (c.if-not-exceeds-2.ensures.0 refl)

pub returns-in_err-gap-clause-room : goal.returns-in_err-gap-clause-room
returns-in_err-gap-clause-room c = λ w room greater lesser tiny.
    let gap = real_gap w room greater.whole lesser.whole greater.small lesser.small in
    let all = all_small w room in
    absurd (not_err c.sub.result (c.sub.ensures.room greater.whole lesser.whole w.d greater.over lesser.over (omega (arith, all, powers)) gap.g_narrow gap.m_narrow gap.narrow) c.in_err-gap.was)

pub returns-in_err-span-clause-room : goal.returns-in_err-span-clause-room
returns-in_err-span-clause-room c = λ w room greater lesser tiny.
    let gap = tiny_gap w room greater.over.positive c.args.higher c.args.lower tiny in
    absurd (not_err c.sub-2.result (c.sub-2.ensures.room tiny.high tiny.low 1 tiny.high_over tiny.low_over gap.one gap.h_narrow gap.l_narrow gap.narrow) c.in_err-span.was)

pub returns-in_err-bound-clause-room : goal.returns-in_err-bound-clause-room
returns-in_err-bound-clause-room c = λ w room greater lesser tiny.
    let gap = real_gap w room greater.whole lesser.whole greater.small lesser.small in
    let real = in_order c.args.lesser c.args.greater lesser.whole greater.whole w.d lesser.over greater.over (c.if-not-exceeds.ensures.0 refl) in
    let less = in_order c.args.lower c.args.higher tiny.low tiny.high 1 tiny.low_over tiny.high_over (c.if-not-exceeds-2.ensures.0 refl) in
    let e = divided w room greater.over.positive greater.whole lesser.whole tiny.high tiny.low real less tiny.gap in
    let gap_over = c.in_ok-gap.ensures.over greater.whole lesser.whole w.d greater.over lesser.over in
    let span_over = c.in_ok-span.ensures.over tiny.high tiny.low 1 tiny.high_over tiny.low_over in
    absurd (not_err c.div.result (c.div.ensures.room (greater.whole -ℤ lesser.whole) (tiny.high -ℤ tiny.low) (greater.whole -ℤ lesser.whole) w.d 1 (w.d * e.factor) gap_over span_over e.quotient e.den gap.narrow) c.in_err-bound.was)

pub returns-clause-room : goal.returns-clause-room
returns-clause-room c = λ w room greater lesser tiny.
    let gap = real_gap w room greater.whole lesser.whole greater.small lesser.small in
    let real = in_order c.args.lesser c.args.greater lesser.whole greater.whole w.d lesser.over greater.over (c.if-not-exceeds.ensures.0 refl) in
    let less = in_order c.args.lower c.args.higher tiny.low tiny.high 1 tiny.low_over tiny.high_over (c.if-not-exceeds-2.ensures.0 refl) in
    let e = divided w room greater.over.positive greater.whole lesser.whole tiny.high tiny.low real less tiny.gap in
    let gap_over = c.in_ok-gap.ensures.over greater.whole lesser.whole w.d greater.over lesser.over in
    let span_over = c.in_ok-span.ensures.over tiny.high tiny.low 1 tiny.high_over tiny.low_over in
    let over = c.in_ok-bound.ensures.over (greater.whole -ℤ lesser.whole) (tiny.high -ℤ tiny.low) (greater.whole -ℤ lesser.whole) w.d 1 (w.d * e.factor) gap_over span_over e.quotient in
    bound_over w greater.whole lesser.whole tiny.high tiny.low c.in_ok-bound.bound e over gap.small tiny.gap
