-- Quotients of gaps bound the small number.
use Rattle.std.proofs.Common.{◌≡◌, ◌≢◌, ℤ, pos, negsuc, neg_ℤ, ◌+ℤ◌, ◌*ℤ◌, ◌<ℤ◌, Option, Some, None, Bool, true, cond, sym, ap, subst, ◌∙◌, arith}
use Rattle.std.proofs.lemmas.Int.{ints}
use Rattle.std.specs.declared.cmp.Ordering.{Ordering}
use Rattle.std.specs.declared.cmp.Ordering.TheVariants.{Less, Equal, Greater}
use Rattle.xc_model.specs.Order.{Orders}
use Rattle.xc_frac.specs.declared.delta.Delta.{Delta}
use Rattle.xc_interval.specs.Ends.{value_of}
use Rattle.xc_interval.specs.declared.interval.Interval.{Interval}
use Rattle.xc_joint.specs.Small.{Bounds, IsPositive, IsPositiveBound, IsSmallAt, IsUnder, low_pair, high_pair, at, pair, IsAt}
use Rattle.xc_joint.specs.Steps.Gaps.{KeepsGap}
use Rattle.xc_model.specs.Fraction.{Fraction, SameNumber, IsBelow, IsQuotient, whole, neg_of, sum_of, difference_of, product_of}
use Rattle.xc_model.specs.Ratio.{Ratio, IsOver, fraction_of}
use Rattle.xc_model.proofs.Integers.{ring, cancel_lt, mul_positive}
use Rattle.xc_model.proofs.Numbers.{below-same, below-trans, den_positive, same-neg, same-product, same-refl, same-sum, same-sym, same-trans}
use Rattle.xc_model.proofs.NumbersOver.{over_number}
use Rattle.xc_model.proofs.Orders.{number_product, number_total}

-- ---- the lesser of two bounds

pub under_other : (first second s : Fraction) → ¬ IsBelow second first → IsBelow s first → IsBelow s second
under_other first second s not below = by (number_total first second)
  where
    by : (o : Ordering) × Orders o first second → IsBelow s second
    by (Less, less) = below-trans s first second below less
    by (Equal, same) = below-same s first s second (same-refl s) same below
    by (Greater, greater) = absurd (not greater)

-- ---- a quotient of gaps

-- a number that is g - m, where g is the greater
gap_positive : (r g m : Fraction) → SameNumber r (difference_of g m) → IsBelow m g → IsPositive r
gap_positive r g m same less =
    let some : pos 0 <ℤ (g.num *ℤ pos m.den +ℤ neg_ℤ m.num *ℤ pos g.den) = positive g.num (pos m.den) m.num (pos g.den) less.cross in
    let gap : IsPositive (difference_of g m) = record { cross = omega (arith, ints, some) } in
    below-same (whole (pos 0)) (difference_of g m) (whole (pos 0)) r (same-refl (whole (pos 0))) (same-sym r (difference_of g m) same) gap
  where
    positive : (a b c d : ℤ) → (c *ℤ d) <ℤ (a *ℤ b) → pos 0 <ℤ (a *ℤ b +ℤ neg_ℤ c *ℤ d)
    positive a b c d h = let e : neg_ℤ c *ℤ d ≡ neg_ℤ (c *ℤ d) = simp ring in omega (arith, ints, h, e)

pub positive_num : (x : Fraction) → IsPositive x → pos 0 <ℤ x.num
positive_num x h = omega (arith, ints, h.cross)

pub span_some : (span : Ratio) (higher lower : Fraction) → SameNumber (fraction_of span) (difference_of higher lower) → IsBelow lower higher → span.num ≢ pos 0
span_some span higher lower same less none = let h = positive_num (fraction_of span) (gap_positive (fraction_of span) higher lower same less) in absurd (omega (arith, ints, h, none))

-- what times a positive number is positive
factor_positive : (q z g : Fraction) → SameNumber (product_of q z) g → IsPositive z → IsPositive g → IsPositive q
factor_positive q z g same z_positive g_positive =
    let zn = positive_num z z_positive in
    let gn = positive_num g g_positive in
    let both : pos 0 <ℤ (z.num *ℤ pos g.den) = mul_positive z.num (pos g.den) zn (den_positive g) in
    let right : pos 0 <ℤ (g.num *ℤ (pos q.den *ℤ pos z.den)) = mul_positive g.num (pos q.den *ℤ pos z.den) gn (mul_positive (pos q.den) (pos z.den) (den_positive q) (den_positive z)) in
    let e : (z.num *ℤ pos g.den) *ℤ q.num ≡ g.num *ℤ (pos q.den *ℤ pos z.den) = go q.num z.num (pos g.den) ∙ same.cross in
    let zero : (z.num *ℤ pos g.den) *ℤ pos 0 ≡ pos 0 = times_zero (z.num *ℤ pos g.den) in
    let qn : pos 0 <ℤ q.num = cancel_lt (z.num *ℤ pos g.den) (pos 0) q.num both (omega (arith, ints, right, e, zero)) in
    record { cross = omega (arith, ints, qn) }
  where
    go : (q z g : ℤ) → (z *ℤ g) *ℤ q ≡ (q *ℤ z) *ℤ g
    go q z g = simp ring

    times_zero : (a : ℤ) → a *ℤ pos 0 ≡ pos 0
    times_zero a = omega (arith, ints)

pub quotient_bounds : (bound gap span : Ratio) (greater lesser higher lower : Fraction) → SameNumber (fraction_of gap) (difference_of greater lesser) → SameNumber (fraction_of span) (difference_of higher lower) → IsQuotient (fraction_of bound) (fraction_of gap) (fraction_of span) → IsBelow lesser greater → IsBelow lower higher
    → Bounds (Some bound) (KeepsGap greater lesser higher lower)
quotient_bounds bound gap span greater lesser higher lower same_gap same_span quotient real tiny =
    let g = fraction_of gap in
    let z = fraction_of span in
    let q = fraction_of bound in
    let z_positive = gap_positive z higher lower same_span tiny in
    record {
      positive = factor_positive q z g quotient.back z_positive (gap_positive g greater lesser same_gap real);
      under = λ s positive below real_ tiny_.
          let times : IsBelow (product_of s z) (product_of q z) = number_product z z_positive Less s q below in
          below-same (product_of s z) (product_of q z) (product_of s (difference_of higher lower)) (difference_of greater lesser)
          (same-product s z s (difference_of higher lower) (same-refl s) same_span)
          (same-trans (product_of q z) g (difference_of greater lesser) quotient.back same_gap) times;
    }

pub no_gap : (greater lesser higher lower : Fraction) → ¬ (IsBelow lesser greater × IsBelow lower higher) → Bounds None (KeepsGap greater lesser higher lower)
no_gap greater lesser higher lower none = record { positive = tt; under = λ s positive below real tiny. absurd (none (real, tiny)) }

-- ---- half of a number

pub two_some : (two : Ratio) → IsOver two (pos 2) 1 → two.num ≢ pos 0
two_some two over none = absurd (omega (arith, ints, over.same, none, two.lowest.positive))

module _ (h q two : Ratio) (over : IsOver two (pos 2) 1) (quotient : IsQuotient (fraction_of h) (fraction_of q) (fraction_of two)) (positive : IsPositive (fraction_of q)) where
  -- twice h is q
  twice : SameNumber (product_of (fraction_of h) (whole (pos 2))) (fraction_of q)
  twice =
      let two_is : SameNumber (fraction_of two) (whole (pos 2)) = record { cross = (over_number two (pos 2) 1 over).cross } in
      same-trans (product_of (fraction_of h) (whole (pos 2))) (product_of (fraction_of h) (fraction_of two)) (fraction_of q)
      (same-product (fraction_of h) (whole (pos 2)) (fraction_of h) (fraction_of two) (same-refl (fraction_of h)) (same-sym (fraction_of two) (whole (pos 2)) two_is)) quotient.back

  two_positive : IsPositive (whole (pos 2))
  two_positive = record { cross = omega (arith, ints) }

  pub half_positive : IsPositive (fraction_of h)
  half_positive = factor_positive (fraction_of h) (whole (pos 2)) (fraction_of q) twice two_positive positive

  pub half_below : IsBelow (fraction_of h) (fraction_of q)
  half_below =
      let x : Fraction = fraction_of h in
      let y : Fraction = fraction_of q in
      let some = mul_positive x.num (pos y.den) (positive_num x half_positive) (den_positive y) in
      let e = by x.num (pos y.den) y.num (pos x.den) twice.cross in
      record { cross = omega (arith, ints, some, e) }
    where
      by : (a b c d : ℤ) → (a *ℤ pos 2) *ℤ b ≡ c *ℤ (d *ℤ pos 1) → (a *ℤ b) +ℤ (a *ℤ b) ≡ c *ℤ d
      by a b c d e =
          let left : (a *ℤ pos 2) *ℤ b ≡ (a *ℤ b) +ℤ (a *ℤ b) = double a b in
          let right : c *ℤ (d *ℤ pos 1) ≡ c *ℤ d = ap (λ z. c *ℤ z) (times_one d) in
          sym left ∙ e ∙ right
        where
          times_one : (a : ℤ) → a *ℤ pos 1 ≡ a
          times_one a = omega (arith, ints)

          double : (a b : ℤ) → (a *ℤ pos 2) *ℤ b ≡ (a *ℤ b) +ℤ (a *ℤ b)
          double a b = let t : a *ℤ pos 2 ≡ a +ℤ a = omega (arith, ints) in ap (λ z. z *ℤ b) t ∙ simp ring

-- ---- a bound by one value

-- the tiny part of an end may be any that is the same number
pub low_kept : (greater lesser higher lower higher' s : Fraction) → SameNumber higher higher' → KeepsGap greater lesser higher lower s → KeepsGap greater lesser higher' lower s
low_kept greater lesser higher lower higher' s same keeps real tiny =
    let below = keeps real (below-same lower higher' lower higher (same-refl lower) (same-sym higher higher' same) tiny) in
    below-same (product_of s (difference_of higher lower)) (difference_of greater lesser) (product_of s (difference_of higher' lower)) (difference_of greater lesser)
    (same-product s (difference_of higher lower) s (difference_of higher' lower) (same-refl s) (same-sum higher (neg_of lower) higher' (neg_of lower) same (same-refl (neg_of lower)))) (same-refl (difference_of greater lesser)) below

pub high_kept : (greater lesser higher lower lower' s : Fraction) → SameNumber lower lower' → KeepsGap greater lesser higher lower s → KeepsGap greater lesser higher lower' s
high_kept greater lesser higher lower lower' s same keeps real tiny =
    let below = keeps real (below-same lower' higher lower higher (same-sym lower lower' same) (same-refl higher) tiny) in
    below-same (product_of s (difference_of higher lower)) (difference_of greater lesser) (product_of s (difference_of higher lower')) (difference_of greater lesser)
    (same-product s (difference_of higher lower) s (difference_of higher lower') (same-refl s) (same-sum higher (neg_of lower) higher (neg_of lower') (same-refl higher) (same-neg lower lower' same))) (same-refl (difference_of greater lesser)) below

-- the bounds of both ends, and the lesser of them
pub at_bounds : (range : Interval Ratio) (value : Delta Ratio) (low_value high_value low_tiny high_tiny : Ratio) (low high both : Option Ratio)
    → low_value ≡ value_of range.low → high_value ≡ value_of range.high → SameNumber (fraction_of low_tiny) (low_pair range.low).tiny → SameNumber (fraction_of high_tiny) (high_pair range.high).tiny
    → Bounds low (KeepsGap (fraction_of value.real) (fraction_of low_value) (fraction_of low_tiny) (fraction_of value.tiny))
    → Bounds high (KeepsGap (fraction_of high_value) (fraction_of value.real) (fraction_of value.tiny) (fraction_of high_tiny))
    → (IsPositiveBound low → IsPositiveBound high → IsPositiveBound both) → ((s : Fraction) → IsUnder both s → IsUnder low s × IsUnder high s)
    → Bounds both (IsSmallAt range (pair value))
at_bounds range value low_value high_value low_tiny high_tiny low high both is_low is_high low_same high_same low_bounds high_bounds positive under = record {
  positive = positive low_bounds.positive high_bounds.positive;
  under = λ s s_positive below.
      let parts = under s below in
      record {
        low = low_kept (fraction_of value.real) (fraction_of (value_of range.low)) (fraction_of low_tiny) (fraction_of value.tiny) (low_pair range.low).tiny s low_same
            (subst (λ f. KeepsGap (fraction_of value.real) (fraction_of f) (fraction_of low_tiny) (fraction_of value.tiny) s) is_low (low_bounds.under s s_positive parts.0));
        high = high_kept (fraction_of (value_of range.high)) (fraction_of value.real) (fraction_of value.tiny) (fraction_of high_tiny) (high_pair range.high).tiny s high_same
            (subst (λ f. KeepsGap (fraction_of f) (fraction_of value.real) (fraction_of value.tiny) (fraction_of high_tiny) s) is_high (high_bounds.under s s_positive parts.1));
      };
}

-- ---- a value

pub value_is : (x product : Ratio) (value : Delta Ratio) (s : Ratio) → SameNumber (fraction_of x) (sum_of (fraction_of value.real) (fraction_of product)) → SameNumber (fraction_of product) (product_of (fraction_of value.tiny) (fraction_of s)) → IsAt (fraction_of s) value x
value_is x product value s sum times =
    same-trans (fraction_of x) (sum_of (fraction_of value.real) (fraction_of product)) (at (pair value) (fraction_of s)) sum
    (same-sum (fraction_of value.real) (fraction_of product) (fraction_of value.real) (product_of (fraction_of value.tiny) (fraction_of s)) (same-refl (fraction_of value.real)) times)

-- ---- an end

pub minus_one : (one minus : Ratio) → SameNumber (fraction_of one) (whole (pos 1)) → SameNumber (fraction_of minus) (neg_of (fraction_of one)) → SameNumber (fraction_of minus) (whole (negsuc 0))
minus_one one minus is_one is_minus = same-trans (fraction_of minus) (neg_of (fraction_of one)) (whole (negsuc 0)) is_minus (same-neg (fraction_of one) (whole (pos 1)) is_one)

pub open_tiny : (opens : Bool) (x y z : Fraction) → true ≡ opens → SameNumber x y → SameNumber x (cond opens y z)
open_tiny opens x y z e same = subst (λ b. SameNumber x (cond b y z)) e same
