use Rattle.std.specs.Prelude.{pos}
use Rattle.xc_model.specs.Fraction.{whole}
use Rattle.xc_model.proofs.Numbers.{same-refl}
use Rattle.xc_verdict.proofs.Judged.{apart}
use Rattle.xc_verdict.proofs.judging.is_apart.Goals as goal

pub returns : goal.returns
returns c =
    apart c.args.points.now c.args.binding.now c.interval_at-total.result c.sum_of.result c.meet.result c.interval_at-total.ensures.is c.sum_of.ensures
    (c.meet.ensures.numbers (λ f. same-refl (whole (pos 0)))) c.is_empty.result (c.is_empty.ensures.numbers (λ f. same-refl (whole (pos 0))))
