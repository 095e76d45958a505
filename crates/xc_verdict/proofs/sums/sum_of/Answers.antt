use Rattle.std.proofs.Common.{◌≡◌, ◌+◌, [], ◌∷◌, drop, subst, arith}
use Rattle.std.proofs.lemmas.Grind.{common_steps}
use Rattle.xc_verdict.proofs.Added.{Summed, room_times, room_for, summed_none, summed_more, summed_all}
use Rattle.xc_verdict.proofs.Loops.{next_term}
use Rattle.xc_verdict.proofs.sums.sum_of.Goals as goal

pub loop-term-init : goal.loop-term-init
loop-term-init c = summed_none c.args.points.now c.args.binding.now c.zero_interval-sum.result c.requires.met c.zero_interval-sum.ensures.some c.zero_interval-sum.ensures.numbers c.zero_interval-sum.ensures.counted

pub times_weight-requires-clause-room : goal.times_weight-requires-clause-room
times_weight-requires-clause-room c =
    let points = c.args.points.now in
    let binding = c.args.binding.now in
    let terms = binding.terms in
    let i = c.loop-term.term-index in
    let term = c.term-item.result in
    let next = subst (λ ts. drop i ts ≡ term ∷ drop (i + 1) ts) c.as_slice-term-items.ensures (next_term c.as_slice-term-items.result.now i term c.loop-term-test.true c.term-item.is) in
    let so_far = subst (λ rest. Summed points binding rest c.loop-term.sum) next c.loop-term.invariant in
    room_times c.scales.ensures.some c.scales.ensures.grow points binding c.requires.narrow term (drop (i + 1) terms) c.loop-term.sum c.interval_at-interval.result (so_far.counts c.scales.ensures.some c.scales.ensures.grow c.requires.narrow) c.interval_at-interval.ensures.is

pub plus-sum-requires-clause-room : goal.plus-sum-requires-clause-room
plus-sum-requires-clause-room c =
    let points = c.args.points.now in
    let binding = c.args.binding.now in
    let terms = binding.terms in
    let i = c.loop-term.term-index in
    let term = c.term-item.result in
    let next = subst (λ ts. drop i ts ≡ term ∷ drop (i + 1) ts) c.as_slice-term-items.ensures (next_term c.as_slice-term-items.result.now i term c.loop-term-test.true c.term-item.is) in
    let so_far = subst (λ rest. Summed points binding rest c.loop-term.sum) next c.loop-term.invariant in
    room_for c.scales.ensures.some c.scales.ensures.grow points binding c.requires.narrow term (drop (i + 1) terms) c.loop-term.sum c.interval_at-interval.result (so_far.counts c.scales.ensures.some c.scales.ensures.grow c.requires.narrow) c.interval_at-interval.ensures.is c.times_weight.result c.times_weight.ensures.counted

pub loop-term-preserved : goal.loop-term-preserved
loop-term-preserved c =
    let points = c.args.points.now in
    let binding = c.args.binding.now in
    let terms = binding.terms in
    let i = c.loop-term.term-index in
    let term = c.term-item.result in
    let next = subst (λ ts. drop i ts ≡ term ∷ drop (i + 1) ts) c.as_slice-term-items.ensures (next_term c.as_slice-term-items.result.now i term c.loop-term-test.true c.term-item.is) in
    let so_far = subst (λ rest. Summed points binding rest c.loop-term.sum) next c.loop-term.invariant in
    summed_more points binding term (drop (i + 1) terms) c.loop-term.sum c.interval_at-interval.result c.times_weight.result c.plus-sum.result so_far c.interval_at-interval.ensures.is
    c.times_weight.ensures.numbers c.times_weight.ensures.counted c.plus-sum.ensures.numbers c.plus-sum.ensures.counted c.plus-sum.ensures.some

pub returns : goal.returns
returns c =
    let points = c.args.points.now in
    let binding = c.args.binding.now in
    let all : drop c.loop-term.term-index binding.terms ≡ [] = grind (arith, common_steps) in
    summed_all points binding c.loop-term.sum (subst (λ rest. Summed points binding rest c.loop-term.sum) all c.loop-term.invariant)
