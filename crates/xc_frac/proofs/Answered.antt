-- From an optional result to what an operation answers with it, or else with the error e.
use Rattle.std.proofs.Common.{ℕ, ℤ, ◌<◌, ◌^◌, Some, None, refl}
use Rattle.std.specs.Prelude.{◌+ℤ◌, Option, IfSome, IfNone, OnSome, IfOk, IsOk, OnOk, OnErr}
use Rattle.std.specs.Option.{ok_or}
use Rattle.xc_model.specs.Fraction.{SameNumber, IsProductOver, IsQuotientOver, neg_of, sum_of, difference_of, product_of, IsQuotient}
use Rattle.xc_model.specs.Ratio.{Ratio, fraction_of, IsOver}
use Rattle.xc_model.specs.Width.{IsNarrow, SumPasses, DifferencePasses, ProductPasses, QuotientPasses}
use Rattle.xc_model.proofs.LeastCommon.{sum_passes_terms}
use Rattle.xc_model.proofs.Lowest.{SameTerms, neg_terms, same_terms-sym}
use Rattle.xc_model.proofs.Numbers.{same-refl, same-sum, same-trans}
use Rattle.xc_model.proofs.NumbersOver.{over_number, number_over, number_over-same, product_number, quotient_number, product_room, quotient_room}
use Rattle.xc_model.proofs.Over.{sum_over, sum_room}
use Rattle.xc_frac.proofs.Inverses.{IsInverse, quotient_by_inverse, quotient_passes, quotient_not_passes}

module _ {E : Type 0} (e : E) (f g : Ratio) where
  pub sum_over_ok : (o : Option Ratio) (n m : ℤ) (d : ℕ) → IfSome o (λ r. SameNumber (fraction_of r) (sum_of (fraction_of f) (fraction_of g)))
      → IsOver f n d → IsOver g m d → IfOk (ok_or o e) (λ r. IsOver r (n +ℤ m) d)
  sum_over_ok (Some r) n m d h left right = sum_over f g r n m d h left right
  sum_over_ok None n m d h left right = tt

  pub sum_room_ok : (o : Option Ratio) (n m : ℤ) (d : ℕ) → IfNone o (SumPasses (fraction_of f) (fraction_of g))
      → IsOver f n d → IsOver g m d → d < 2 ^ 127 → IsNarrow n → IsNarrow m → IsNarrow (n +ℤ m) → IsOk (ok_or o e)
  sum_room_ok (Some r) n m d h left right d_narrow n_narrow m_narrow sum_narrow = refl
  sum_room_ok None n m d h left right d_narrow n_narrow m_narrow sum_narrow =
      absurd (sum_room f g n m d left right d_narrow n_narrow m_narrow sum_narrow h)

  -- p / c is the product of n / d and m / k
  module _ (n m p : ℤ) (d k c : ℕ) (left : IsOver f n d) (right : IsOver g m k) (times : IsProductOver n d m k p c) where
    pub product_over_ok : (o : Option Ratio) → IfSome o (λ r. SameNumber (fraction_of r) (product_of (fraction_of f) (fraction_of g))) → IfOk (ok_or o e) (λ r. IsOver r p c)
    product_over_ok (Some r) h =
        number_over r p c (number_over-same (product_of (fraction_of f) (fraction_of g)) (fraction_of r) p c h
        (product_number (fraction_of f) (fraction_of g) n m p d k c (over_number f n d left) (over_number g m k right) times))
    product_over_ok None h = tt

    pub product_room_ok : (o : Option Ratio) → IfNone o (ProductPasses (fraction_of f) (fraction_of g)) → c < 2 ^ 127 → IsNarrow p → IsOk (ok_or o e)
    product_room_ok (Some r) h small narrow = refl
    product_room_ok None h small narrow = absurd (product_room (fraction_of f) (fraction_of g) n m p d k c (over_number f n d left) (over_number g m k right) times small narrow h)

  -- i is the negative of g
  module _ (i : Ratio) (neg : SameNumber (fraction_of i) (neg_of (fraction_of g))) where
    terms : SameTerms (fraction_of i) (neg_of (fraction_of g))
    terms = neg_terms (fraction_of g) (fraction_of i) neg g.lowest.coprime i.lowest.coprime

    pub difference_exact : (o : Option Ratio) → IfSome o (λ r. SameNumber (fraction_of r) (sum_of (fraction_of f) (fraction_of i)))
        → IfOk (ok_or o e) (λ r. SameNumber (fraction_of r) (difference_of (fraction_of f) (fraction_of g)))
    difference_exact (Some r) h =
        same-trans (fraction_of r) (sum_of (fraction_of f) (fraction_of i)) (difference_of (fraction_of f) (fraction_of g)) h
        (same-sum (fraction_of f) (fraction_of i) (fraction_of f) (neg_of (fraction_of g)) (same-refl (fraction_of f)) neg)
    difference_exact None h = tt

    pub difference_fits : (o : Option Ratio) → OnSome o (¬ (SumPasses (fraction_of f) (fraction_of i)))
        → OnOk (ok_or o e) (¬ (DifferencePasses (fraction_of f) (fraction_of g)))
    difference_fits (Some r) h =
        λ w. h (sum_passes_terms (fraction_of f) (neg_of (fraction_of g)) (fraction_of i) (same_terms-sym (fraction_of i) (neg_of (fraction_of g)) terms) w)
    difference_fits None h = tt

    pub difference_passes : (o : Option Ratio) → IfNone o (SumPasses (fraction_of f) (fraction_of i))
        → OnErr (ok_or o e) (DifferencePasses (fraction_of f) (fraction_of g))
    difference_passes (Some r) h = tt
    difference_passes None h = sum_passes_terms (fraction_of f) (fraction_of i) (neg_of (fraction_of g)) terms h

  -- i is 1 over g
  module _ (i : Ratio) (inverse : IsInverse i g) where
    pub quotient_exact : (o : Option Ratio) → IfSome o (λ r. SameNumber (fraction_of r) (product_of (fraction_of f) (fraction_of i)))
        → IfOk (ok_or o e) (λ r. IsQuotient (fraction_of r) (fraction_of f) (fraction_of g))
    quotient_exact (Some r) h = quotient_by_inverse (fraction_of r) (fraction_of f) i g inverse h
    quotient_exact None h = tt

    pub quotient_fits : (o : Option Ratio) → IfSome o (λ r. SameNumber (fraction_of r) (product_of (fraction_of f) (fraction_of i)))
        → OnOk (ok_or o e) (¬ (QuotientPasses (fraction_of f) (fraction_of g)))
    quotient_fits (Some r) h = quotient_not_passes r i g (fraction_of f) inverse h
    quotient_fits None h = tt

    pub quotient_passes_err : (o : Option Ratio) → IfNone o (ProductPasses (fraction_of f) (fraction_of i))
        → OnErr (ok_or o e) (QuotientPasses (fraction_of f) (fraction_of g))
    quotient_passes_err (Some r) h = tt
    quotient_passes_err None h = quotient_passes (fraction_of f) i g inverse h

    -- p / c is n / d over m / k
    module _ (n m p : ℤ) (d k c : ℕ) (left : IsOver f n d) (right : IsOver g m k) (by : IsQuotientOver n d m k p c) where
      pub quotient_over_ok : (o : Option Ratio) → IfSome o (λ r. SameNumber (fraction_of r) (product_of (fraction_of f) (fraction_of i))) → IfOk (ok_or o e) (λ r. IsOver r p c)
      quotient_over_ok (Some r) h =
          number_over r p c (quotient_number (fraction_of f) (fraction_of g) n m p d k c (over_number f n d left) (over_number g m k right) by (fraction_of r)
          (quotient_by_inverse (fraction_of r) (fraction_of f) i g inverse h))
      quotient_over_ok None h = tt

      pub quotient_room_ok : (o : Option Ratio) → IfNone o (ProductPasses (fraction_of f) (fraction_of i)) → c < 2 ^ 127 → IsNarrow p → IsOk (ok_or o e)
      quotient_room_ok (Some r) h small narrow = refl
      quotient_room_ok None h small narrow =
          absurd (quotient_room (fraction_of f) (fraction_of g) n m p d k c (over_number f n d left) (over_number g m k right) by small narrow (quotient_passes (fraction_of f) i g inverse h))
