use Rattle.std.proofs.Common.{◌≡◌, ℕ, ◌+◌, ◌*◌, ◌^◌, ap, ◌∙◌, arith}
use Rattle.xc_verdict.specs.Ranges.{range_at}
use Rattle.xc_interval.specs.Scales.{saturated}
use Rattle.xc_bind.specs.Equation.{most_places}
use Rattle.xc_interval.specs.Scales.{greatest}
use Rattle.xc_verdict.specs.Widths.{terms_size}
use Rattle.xc_verdict.proofs.width.width.Goals as goal

sums_cut : (a b c : ℕ) → saturated (saturated (saturated a + saturated b) + saturated c) ≡ saturated (a + (b + c))
sums_cut a b c = omega arith

pub returns : goal.returns
returns c =
    let points = c.args.points.now in
    let binding = c.args.binding.now in
    let scale = c.args.scale in
    let places = most_places binding.terms in
    let size = greatest scale (range_at points binding.total) in
    let rest = terms_size points places scale binding.terms in
    let places_are : c.most_places-places.result ≡ places = c.most_places-places.ensures.is ∙ ap most_places c.as_slice-terms.ensures in
    let power_is : c.power-power.result ≡ 10 ^ places = c.power-power.ensures.is ∙ ap (λ n. 10 ^ n) places_are in
    let one_is : c.saturating_mul-one.result ≡ saturated (scale * 10 ^ places) = c.saturating_mul-one.ensures ∙ ap (λ n. saturated (scale * n)) power_is in
    let size_is : c.greatest.result ≡ saturated size = c.greatest.ensures ∙ ap (λ r. saturated (greatest scale r)) c.range_at.ensures in
    let total_is : c.saturating_mul-total.result ≡ saturated (10 ^ places * size) =
    c.saturating_mul-total.ensures ∙ ap (λ n. saturated (n * c.greatest.result)) power_is ∙ ap (λ n. saturated (10 ^ places * n)) size_is ∙ c.saturated_sums.ensures.products (10 ^ places) size in
    let rest_is : c.terms_size.result ≡ saturated rest =
    c.terms_size.ensures ∙ ap (λ n. saturated (terms_size points n scale c.as_slice-terms.result.now)) places_are ∙ ap (λ ts. saturated (terms_size points places scale ts)) c.as_slice-terms.ensures in
    let both_is : c.saturating_add.result ≡ saturated (saturated (scale * 10 ^ places) + saturated (10 ^ places * size)) =
    c.saturating_add.ensures ∙ ap (λ n. saturated (n + c.saturating_mul-total.result)) one_is ∙ ap (λ n. saturated (saturated (scale * 10 ^ places) + n)) total_is in
    c.saturating_add-2.ensures
    ∙ ap (λ n. saturated (n + c.terms_size.result)) both_is
    ∙ ap (λ n. saturated (saturated (saturated (scale * 10 ^ places) + saturated (10 ^ places * size)) + n)) rest_is
    ∙ sums_cut (scale * 10 ^ places) (10 ^ places * size) rest
