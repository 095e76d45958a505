-- An operation on fractions in lowest terms has one result, and one that has a result does not pass.
use Rattle.std.proofs.Common.{◌≡◌, ℕ, ℤ}
use Rattle.xc_model.specs.Fraction.{SameNumber, product_of, neg_of, IsQuotient}
use Rattle.xc_model.specs.Ratio.{Ratio, fraction_of, IsOver}
use Rattle.xc_model.specs.Width.{ProductPasses, QuotientPasses}
use Rattle.xc_model.proofs.LowestTerms.{one_lowest}
use Rattle.xc_model.proofs.Lowest.{product_fits, quotient_fits}
use Rattle.xc_model.proofs.Numbers.{same-sym, same-trans, quotient_unique}
use Rattle.xc_model.proofs.Over.{ratio, over_same}

pub over_one : (f g : Ratio) (n : ℤ) (d : ℕ) → IsOver f n d → IsOver g n d → f ≡ g
over_one f g n d h l = one_lowest f g (same-trans (fraction_of f) (ratio n d h.positive) (fraction_of g) (over_same f n d h.positive h) (same-sym (fraction_of g) (ratio n d h.positive) (over_same g n d h.positive l)))

pub negative_one : (f r s : Ratio) → SameNumber (fraction_of r) (neg_of (fraction_of f)) → SameNumber (fraction_of s) (neg_of (fraction_of f)) → r ≡ s
negative_one f r s h l = one_lowest r s (same-trans (fraction_of r) (neg_of (fraction_of f)) (fraction_of s) h (same-sym (fraction_of s) (neg_of (fraction_of f)) l))

module _ (f g r : Ratio) where
  pub product_one : (s : Ratio) → SameNumber (fraction_of r) (product_of (fraction_of f) (fraction_of g)) → SameNumber (fraction_of s) (product_of (fraction_of f) (fraction_of g)) → r ≡ s
  product_one s h l = one_lowest r s (same-trans (fraction_of r) (product_of (fraction_of f) (fraction_of g)) (fraction_of s) h (same-sym (fraction_of s) (product_of (fraction_of f) (fraction_of g)) l))

  pub quotient_one : (s : Ratio) → IsQuotient (fraction_of r) (fraction_of f) (fraction_of g) → IsQuotient (fraction_of s) (fraction_of f) (fraction_of g) → r ≡ s
  quotient_one s h l = one_lowest r s (quotient_unique (fraction_of r) (fraction_of s) (fraction_of f) (fraction_of g) h l)

  pub product_stays : SameNumber (fraction_of r) (product_of (fraction_of f) (fraction_of g)) → ¬ (ProductPasses (fraction_of f) (fraction_of g))
  product_stays h w = product_fits (fraction_of r) (fraction_of f) (fraction_of g) h r.lowest.coprime r.lowest.num_narrow r.lowest.den_narrow w

  pub quotient_stays : IsQuotient (fraction_of r) (fraction_of f) (fraction_of g) → ¬ (QuotientPasses (fraction_of f) (fraction_of g))
  quotient_stays h w = quotient_fits (fraction_of r) (fraction_of f) (fraction_of g) h r.lowest.coprime r.lowest.num_narrow r.lowest.den_narrow w
