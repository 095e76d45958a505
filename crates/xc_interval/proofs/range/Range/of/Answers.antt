use Rattle.std.proofs.Common.{[], ◌∷◌, sym, subst}
use Rattle.xc_interval.specs.Ranges.{IsRangeOf}
use Rattle.xc_interval.proofs.Narrowing.{one_alone}
use Rattle.xc_interval.proofs.range.Range.of.Goals as goal

pub returns-in-Some : goal.returns-in-Some
returns-in-Some c = subst (λ o. IsRangeOf (o ∷ []) c.between.result) (sym c.in-Some.is) (one_alone c.in-Some.interval c.between.result c.between.ensures)
