use Rattle.std.proofs.Common.{[], ◌∷◌, ◌++◌, sym, subst}
use Rattle.xc_interval.specs.Ranges.{IsRangeOf}
use Rattle.xc_interval.specs.declared.range.Range.TheVariants as range
use Rattle.xc_interval.proofs.Narrowing.{fractions_are_real, met_more, wide_more, empty_more, still_wide}
use Rattle.xc_interval.proofs.range.Range.narrowed.Goals as goal

pub returns-in_default : goal.returns-in_default
returns-in_default c = λ es h. subst (λ o. IsRangeOf (es ++ o ∷ []) range.Wide) (sym c.in_default.is) (wide_more es)

pub returns-in-Meets : goal.returns-in-Meets
returns-in-Meets c = λ es h.
    subst (λ o. IsRangeOf (es ++ o ∷ []) c.between.result) (sym c.in-Some.is)
    (met_more es c.in-Meets.met c.in-Some.next c.meet.result c.between.result (subst (λ r. IsRangeOf es r) c.in-Meets.is h)
    (c.meet.ensures.numbers fractions_are_real) c.meet.ensures.low c.meet.ensures.high c.between.ensures)

pub returns-in-Empty : goal.returns-in-Empty
returns-in-Empty c = λ es h. subst (λ o. IsRangeOf (es ++ o ∷ []) range.Empty) (sym c.in-Some.is) (empty_more es c.in-Some.next (subst (λ r. IsRangeOf es r) c.in-Empty.is h))

pub returns-in-Wide : goal.returns-in-Wide
returns-in-Wide c = λ es h. still_wide es c.args.next (subst (λ r. IsRangeOf es r) c.in-Wide.is h)
