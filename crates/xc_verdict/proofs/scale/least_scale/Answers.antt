use Rattle.std.proofs.Common.{◌≡◌, ◌+◌, [], ◌∷◌, drop, subst, arith}
use Rattle.std.proofs.lemmas.Grind.{common_steps}
use Rattle.xc_interval.specs.Scales.{IsMultipleOf, IsNoneBelow}
use Rattle.xc_interval.specs.Scales.{AreOnScale}
use Rattle.xc_verdict.proofs.Loops.{next_term}
use Rattle.xc_verdict.proofs.LeastScale.{Scaled, scaled_total, scaled_more, scaled_all, none_total, none_more}
use Rattle.xc_verdict.proofs.scale.least_scale.Goals as goal

pub returns-in_default-clause-none : goal.returns-in_default-clause-none
returns-in_default-clause-none c = none_total c.args.points.now c.args.binding.now c.scales.ensures.some c.scales.ensures.grow (subst (λ r. IsNoneBelow 1 (λ m. AreOnScale m r)) c.range_at.ensures c.in_default.ensures.none)

pub loop-term-init : goal.loop-term-init
loop-term-init c = scaled_total c.args.points.now c.args.binding.now c.in-Some.scale (subst (λ r. IsMultipleOf 1 (λ m. AreOnScale m r) c.in-Some.scale) c.range_at.ensures c.in-Some.ensures.some)

pub returns-in_default-common_scale-clause-none : goal.returns-in_default-common_scale-clause-none
returns-in_default-common_scale-clause-none c =
    let points = c.args.points.now in
    let binding = c.args.binding.now in
    let i = c.loop-term.term-index in
    let term = c.term-item.result in
    let next : drop i binding.terms ≡ term ∷ drop (i + 1) binding.terms = subst (λ ts. drop i ts ≡ term ∷ drop (i + 1) ts) c.as_slice-term-items.ensures (next_term c.as_slice-term-items.result.now i term c.loop-term-test.true c.term-item.is) in
    let so_far = subst (λ rest. Scaled points binding rest c.loop-term.scale) next c.loop-term.invariant in
    none_more points binding term (drop (i + 1) binding.terms) c.loop-term.scale so_far c.scales.ensures.some c.scales.ensures.grow (subst (λ r. IsNoneBelow c.loop-term.scale (λ m. AreOnScale m r)) c.range_at-in-loop-term.ensures c.in_default-common_scale.ensures.none)

pub loop-term-preserved : goal.loop-term-preserved
loop-term-preserved c =
    let points = c.args.points.now in
    let binding = c.args.binding.now in
    let i = c.loop-term.term-index in
    let term = c.term-item.result in
    let next : drop i binding.terms ≡ term ∷ drop (i + 1) binding.terms = subst (λ ts. drop i ts ≡ term ∷ drop (i + 1) ts) c.as_slice-term-items.ensures (next_term c.as_slice-term-items.result.now i term c.loop-term-test.true c.term-item.is) in
    let so_far = subst (λ rest. Scaled points binding rest c.loop-term.scale) next c.loop-term.invariant in
    scaled_more points binding term (drop (i + 1) binding.terms) c.loop-term.scale so_far c.in-Some-common_scale.next (subst (λ r. IsMultipleOf c.loop-term.scale (λ m. AreOnScale m r) c.in-Some-common_scale.next) c.range_at-in-loop-term.ensures c.in-Some-common_scale.ensures.some)

pub returns-clause-some : goal.returns-clause-some
returns-clause-some c =
    let binding = c.args.binding.now in
    let all : drop c.loop-term.term-index binding.terms ≡ [] = grind (arith, common_steps) in
    scaled_all c.args.points.now binding c.loop-term.scale (subst (λ rest. Scaled c.args.points.now binding rest c.loop-term.scale) all c.loop-term.invariant)
