use Rattle.std.specs.Prelude.{if◌then◌else◌}
use Rattle.xc_forest.proofs.SpanSteps.{chosen_over, meet_is}
use Rattle.xc_forest.proofs.spans.meet.Goals as goal

pub returns : goal.returns
returns g c x y d h k =
    let lo = c.is_less-low_of_second.result in
    let hi = c.is_less-high_of_second.result in
    let low = c.is_less-low_of_second.ensures x.low y.low d h.low k.low in
    let high = c.is_less-high_of_second.ensures y.high x.high d k.high h.high in (
      record { low = if lo then y.low else x.low; high = if hi then y.high else x.high },
      record {
        low = chosen_over g.E.Exact.parts d lo x.low y.low _ _ _ c.second_if.ensures h.low k.low;
        high = chosen_over g.E.Exact.parts d hi x.high y.high _ _ _ c.second_if-2.ensures h.high k.high;
      },
      meet_is lo hi x y low high,
    )
