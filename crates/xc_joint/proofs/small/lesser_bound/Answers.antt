use Rattle.std.proofs.Common.{refl, sym, subst, true, false, ◌≡◌}
use Rattle.xc_joint.specs.Small.{IsUnder}
use Rattle.xc_joint.proofs.Bounded.{under_other}
use Rattle.xc_model.specs.Ratio.{fraction_of}
use Rattle.xc_model.proofs.Numbers.{below-trans}
use Rattle.xc_joint.proofs.small.lesser_bound.Goals as goal

pub returns-then-exceeds-clause-under : goal.returns-then-exceeds-clause-under
returns-then-exceeds-clause-under c = λ s below. (
  subst (λ o. IsUnder o s) (sym c.in-Some.is) (below-trans s (fraction_of c.in-Some-other.second) (fraction_of c.in-Some.first) below (c.if-exceeds.ensures.0 refl)),
  subst (λ o. IsUnder o s) (sym c.in-Some-other.is) below,
)

pub returns-else-exceeds-clause-under : goal.returns-else-exceeds-clause-under
returns-else-exceeds-clause-under c = λ s below. (
  subst (λ o. IsUnder o s) (sym c.in-Some.is) below,
  subst (λ o. IsUnder o s) (sym c.in-Some-other.is) (under_other (fraction_of c.in-Some.first) (fraction_of c.in-Some-other.second) s (λ h. let e : false ≡ true = c.if-exceeds.ensures.1 h in cc) below),
)
