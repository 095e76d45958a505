use Rattle.std.proofs.Common.{pos}
use Rattle.std.proofs.lemmas.Result.{IfOk-weaker}
use Rattle.xc_model.specs.Fraction.{whole}
use Rattle.xc_model.specs.Ratio.{fraction_of}
use Rattle.xc_model.proofs.Numbers.{same-refl}
use Rattle.xc_interval.specs.Intervals.{numbers_of, frac_parts}
use Rattle.xc_interval.specs.Reported.{reported}
use Rattle.xc_interval.proofs.Admitted.{admits, same_lies, value_in}
use Rattle.xc_interval.proofs.Emptiness.{some_number}
use Rattle.xc_interval.proofs.facts.reported.Goals as goal

pub returns-clause-admits : goal.returns-clause-admits
returns-clause-admits c digits places over =
    IfOk-weaker c.interval_of.result _ _ (λ i same p q some. admits c.args.value digits places over (numbers_of i) p q some c.args.mode c.args.decimals same) c.interval_of.ensures.ends

pub returns-clause-some : goal.returns-clause-some
returns-clause-some c =
    let w = fraction_of c.args.value in
    IfOk-weaker c.interval_of.result _ _
    (λ i same. some_number frac_parts (λ f. same-refl (whole (pos 0))) i w (same_lies (numbers_of i) (reported c.args.mode c.args.decimals w) w same (value_in c.args.mode c.args.decimals w)))
    c.interval_of.ensures.ends
