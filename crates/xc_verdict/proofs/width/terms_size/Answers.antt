use Rattle.std.proofs.Common.{◌≡◌, ℕ, ◌+◌, ◌*◌, [], ◌∷◌, drop, sym, ap, ◌∙◌, arith}
use Rattle.std.proofs.lemmas.Grind.{common_steps}
use Rattle.xc_verdict.specs.Ranges.{range_at}
use Rattle.xc_interval.specs.Scales.{saturated}
use Rattle.xc_interval.specs.Scales.{greatest}
use Rattle.xc_verdict.specs.Widths.{weight_size, terms_size}
use Rattle.xc_interval.specs.Laws.{ProductsStay}
use Rattle.xc_verdict.proofs.Loops.{next_term}
use Rattle.xc_verdict.proofs.width.terms_size.Goals as goal

-- a product both factors of which may have been cut
both_cut : ProductsStay → (a b : ℕ) → saturated (saturated a * saturated b) ≡ saturated (a * b)
both_cut stay a b =
    let swap : (m n : ℕ) → m * n ≡ n * m = λ m n. omega arith in
    stay (saturated a) b ∙ ap saturated (swap (saturated a) b) ∙ stay b a ∙ ap saturated (swap b a)

-- a sum with a part that may have been cut, once before more is added
sum_cut : (sum x rest : ℕ) → saturated (saturated (sum + saturated x) + rest) ≡ saturated (sum + (x + rest))
sum_cut sum x rest = omega arith

pub loop-term-preserved : goal.loop-term-preserved
loop-term-preserved c =
    let points = c.args.points.now in
    let terms = c.args.terms.now in
    let places = c.args.places in
    let scale = c.args.scale in
    let i = c.loop-term.term-index in
    let term = c.term-item.result in
    let sum = c.loop-term.sum in
    let weight = weight_size places term.weight in
    let size = greatest scale (range_at points term.point) in
    let rest = terms_size points places scale (drop (i + 1) terms) in
    let next : drop i terms ≡ term ∷ drop (i + 1) terms = next_term terms i term c.loop-term-test.true c.term-item.is in
    let found : c.greatest.result ≡ saturated size = c.greatest.ensures ∙ ap (λ r. saturated (greatest scale r)) c.range_at-range.ensures in
    let product : c.saturating_mul-size.result ≡ saturated (weight * size) =
    c.saturating_mul-size.ensures ∙ ap (λ n. saturated (n * c.greatest.result)) c.weight_size.ensures ∙ ap (λ n. saturated (saturated weight * n)) found ∙ both_cut c.saturated_sums.ensures.products weight size in
    let added : c.saturating_add-sum.result ≡ saturated (sum + saturated (weight * size)) = c.saturating_add-sum.ensures ∙ ap (λ n. saturated (sum + n)) product in
    let more : saturated (c.saturating_add-sum.result + rest) ≡ saturated (sum + (weight * size + rest)) = ap (λ n. saturated (n + rest)) added ∙ sum_cut sum (weight * size) rest in
    let left : saturated (sum + (weight * size + rest)) ≡ saturated (sum + terms_size points places scale (drop i terms)) = sym (ap (λ ts. saturated (sum + terms_size points places scale ts)) next) in
    (more ∙ left ∙ c.loop-term.invariant.0, omega (arith, added))

pub returns : goal.returns
returns c =
    let all : drop c.loop-term.term-index c.args.terms.now ≡ [] = grind (arith, common_steps) in
    let none : terms_size c.args.points.now c.args.places c.args.scale (drop c.loop-term.term-index c.args.terms.now) ≡ 0 = ap (λ ts. terms_size c.args.points.now c.args.places c.args.scale ts) all in
    let same : c.loop-term.sum ≡ saturated (c.loop-term.sum + terms_size c.args.points.now c.args.places c.args.scale (drop c.loop-term.term-index c.args.terms.now)) = omega (arith, none, c.loop-term.invariant.1) in
    same ∙ c.loop-term.invariant.0
