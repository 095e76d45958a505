-- An interval times a weight holds the weight times its numbers.
use Rattle.std.proofs.Common.{◌≡◌, ◌≢◌, ℕ, zero, suc, ◌*◌, ◌%◌, ◌<◌, ◌^◌, ℤ, pos, negsuc, neg_ℤ, ◌*ℤ◌, inl, inr, refl, sym, ap, subst, ◌∙◌, arith}
use Rattle.std.specs.Prelude.{unsigned_abs, ◌<ℤ◌, ◌⊎◌, ◌↔◌}
use Rattle.std.proofs.lemmas.Int.{ints}
use Rattle.xc_decimal.specs.Shortest.{Shortest, decimal_number}
use Rattle.xc_model.specs.Fraction.{Fraction, SameNumber, IsBelow, whole, neg_of, product_of}
use Rattle.xc_model.specs.Ratio.{Ratio, IsOver, fraction_of}
use Rattle.xc_model.proofs.Integers.{neg-mul, mul-neg}
use Rattle.xc_model.proofs.Arithmetic.{product-one}
use Rattle.xc_model.proofs.Numbers.{same-refl, same-sym, same-trans, same-product}
use Rattle.xc_model.proofs.Over.{ratio, same_over, sign_over}
use Rattle.xc_model.specs.Parts.{SameParts, neg_parts}
use Rattle.xc_interval.specs.Arithmetic.{IsMadeEnd, IsTurned, IsScaled, IsMultiple, IsNegativeOfNumber}
use Rattle.xc_interval.specs.Ends.{value_of, end_at}
use Rattle.xc_interval.specs.Intervals.{numbers_of, pairs_of, frac_parts, HasNumber, IsAtMost}
use Rattle.xc_interval.specs.Laws.{EndsTell}
use Rattle.xc_interval.specs.declared.ends.End.{End}
use Rattle.xc_interval.specs.declared.ends.End.TheVariants.{Closed}
use Rattle.xc_interval.specs.declared.interval.Interval.{Interval}
use Rattle.xc_interval.specs.declared.range.Range.TheVariants as range
use Rattle.xc_verdict.specs.Steps.Sums.{IsSomeInterval, IsWeighted, Holds, IsCounted, AreCounted, IsCountedTimes}
use Rattle.xc_interval.specs.Scales.{greatest}
use Rattle.xc_verdict.specs.Widths.{weight_size}
use Rattle.xc_verdict.proofs.Counted.{real_at, number_at, kept_counted, turned_counted}
use Rattle.xc_verdict.proofs.Found.{some_number}
use Rattle.xc_verdict.proofs.Values.{has_same, scaled_positive}

-- ---- the interval of 0 alone

-- what is at least z and at most z is z
same_between : (z x : Fraction) → IsAtMost IsBelow SameNumber z x → IsAtMost IsBelow SameNumber x z → SameNumber x z
same_between z x (inr same) high = same-sym z x same
same_between z x (inl above) (inr same) = same
same_between z x (inl above) (inl below) = absurd (omega (arith, ints, above.cross, below.cross))

pub only_zero : (z x : Fraction) → SameNumber z (whole (pos 0)) → HasNumber (record { low = Closed z; high = Closed z }) x → SameNumber x (whole (pos 0))
only_zero z x is has = same-trans x z (whole (pos 0)) (same_between z x has.low has.high) is

pub zero_only : (z x : Fraction) → SameNumber z (whole (pos 0)) → SameNumber x (whole (pos 0)) → HasNumber (record { low = Closed z; high = Closed z }) x
zero_only z x is same =
    let at : SameNumber x z = same-trans x (whole (pos 0)) z same (same-sym z (whole (pos 0)) is) in
    record { low = inr (same-sym x z at); high = inr at }

pub zero_counted : (z : Ratio) (unit : ℕ) → SameNumber (fraction_of z) (whole (pos 0)) → 0 < unit → IsCounted unit 0 (Closed z)
zero_counted z unit is some = record {
  count = pos 0;
  is = same_over z (pos 0) unit some (same-trans (fraction_of z) (whole (pos 0)) (ratio (pos 0) unit some) is (record { cross = omega (arith, ints) }));
  within = omega (arith, ints);
}

-- ---- whole weights

whole_is : (w : Shortest) (n : ℤ) → w.digits ≡ n → w.places ≡ 0 → SameNumber (decimal_number w) (whole n)
whole_is w n digits places = record {
  cross = ap (λ z. z *ℤ pos 1) digits ∙ ap (λ (p : ℕ). n *ℤ pos (10 ^ p)) (sym places);
}

times_whole : (w : Shortest) (n : ℤ) (x y : Fraction) → w.digits ≡ n → w.places ≡ 0 → SameNumber (product_of x (whole n)) y → SameNumber (product_of x (decimal_number w)) y
times_whole w n x y digits places is =
    same-trans (product_of x (decimal_number w)) (product_of x (whole n)) y (same-product x (decimal_number w) x (whole n) (same-refl x) (whole_is w n digits places)) is

times_minus : (x : Fraction) → SameNumber (product_of x (whole (negsuc 0))) (neg_of x)
times_minus x = record {
  cross =
      ap (λ z. z *ℤ pos x.den) (mul-neg x.num (pos 1))
      ∙ neg-mul (x.num *ℤ pos 1) (pos x.den)
      ∙ ap neg_ℤ (product-one x).cross
      ∙ sym (neg-mul x.num (pos (x.den * 1)));
}

times_zero : (x : Fraction) → SameNumber (product_of x (whole (pos 0))) (whole (pos 0))
times_zero x = record { cross = omega (arith, ints) }

-- 1

module _ (w : Shortest) (digits : w.digits ≡ pos 1) (places : w.places ≡ 0) (i : Interval Ratio) where
  one_times : (x : Fraction) → SameNumber (product_of x (decimal_number w)) x
  one_times x = times_whole w (pos 1) x x digits places (product-one x)

  pub one_holds : Holds i (IsWeighted w (HasNumber (numbers_of i)))
  one_holds = λ x. (
    λ has. record { number = x; has = has; is = one_times x },
    λ t. has_same (numbers_of i) t.number x (same-trans t.number (product_of t.number (decimal_number w)) x (same-sym (product_of t.number (decimal_number w)) t.number (one_times t.number)) t.is) t.has,
  )

  pub one_counted : IsCountedTimes i w i
  one_counted = kept_counted w i i (record {
    low = same-sym (product_of (fraction_of (value_of i.low)) (decimal_number w)) (fraction_of (value_of i.low)) (one_times (fraction_of (value_of i.low)));
    high = same-sym (product_of (fraction_of (value_of i.high)) (decimal_number w)) (fraction_of (value_of i.high)) (one_times (fraction_of (value_of i.high)));
  })

-- -1

module _ (w : Shortest) (digits : w.digits ≡ negsuc 0) (places : w.places ≡ 0) (i m : Interval Ratio) where
  minus_times : (x : Fraction) → SameNumber (product_of x (decimal_number w)) (neg_of x)
  minus_times x = times_whole w (negsuc 0) x (neg_of x) digits places (times_minus x)

  pub minus_holds : ((x : Fraction) → HasNumber (numbers_of m) x ↔ IsNegativeOfNumber (numbers_of i) x) → Holds m (IsWeighted w (HasNumber (numbers_of i)))
  minus_holds negatives = λ x. (
    λ has.
        let made = (negatives x).0 has in
        record { number = made.from; has = made.lies; is = same-trans (product_of made.from (decimal_number w)) (neg_of made.from) x (minus_times made.from) made.makes },
    λ t. (negatives x).1 (record {
      from = t.number;
      lies = t.has;
      makes = same-trans (neg_of t.number) (product_of t.number (decimal_number w)) x (same-sym (product_of t.number (decimal_number w)) (neg_of t.number) (minus_times t.number)) t.is;
    }),
  )

  minus_end : (e n : End Ratio) → IsMadeEnd SameParts neg_parts (end_at frac_parts e) (end_at frac_parts n) → SameNumber (fraction_of (value_of n)) (product_of (fraction_of (value_of e)) (decimal_number w))
  minus_end e n made =
      let x : Fraction = fraction_of (value_of e) in
      let at : SameNumber (fraction_of (value_of n)) (neg_of x) =
      subst (λ y. SameNumber y (neg_of x)) (real_at n) (subst (λ y. SameNumber (value_of (end_at frac_parts n)).real (neg_of y)) (real_at e) made.at.real) in
      same-trans (fraction_of (value_of n)) (neg_of x) (product_of x (decimal_number w)) at (same-sym (product_of x (decimal_number w)) (neg_of x) (minus_times x))

  pub minus_counted : IsTurned SameParts neg_parts (pairs_of frac_parts i) (pairs_of frac_parts m) → IsCountedTimes i w m
  minus_counted turned = turned_counted w i m (record { low = minus_end i.high m.low turned.low; high = minus_end i.low m.high turned.high })

-- 0

module _ (tell : EndsTell IsBelow SameNumber) (w : Shortest) (digits : w.digits ≡ pos 0) (places : w.places ≡ 0) (i z : Interval Ratio) where
  zero_times : (x : Fraction) → SameNumber (product_of x (decimal_number w)) (whole (pos 0))
  zero_times x = times_whole w (pos 0) x (whole (pos 0)) digits places (times_zero x)

  pub zero_holds : IsSomeInterval i → Holds z (λ x. SameNumber x (whole (pos 0))) → Holds z (IsWeighted w (HasNumber (numbers_of i)))
  zero_holds some held = λ x. (
    λ has.
        let y = some_number tell i some in
        record { number = y.0; has = y.1; is = same-trans (product_of y.0 (decimal_number w)) (whole (pos 0)) x (zero_times y.0) (same-sym x (whole (pos 0)) ((held x).0 has)) },
    λ t. (held x).1 (same-trans x (product_of t.number (decimal_number w)) (whole (pos 0)) (same-sym (product_of t.number (decimal_number w)) x t.is) (zero_times t.number)),
  )

counted_more : (unit n : ℕ) (e : End Ratio) → IsCounted unit 0 e → IsCounted unit n e
counted_more unit n e h = record { count = h.count; is = h.is; within = omega (arith, h.within) }

pub zero_counted_times : (w : Shortest) (i z : Interval Ratio) → ((unit : ℕ) → 0 < unit → AreCounted unit 0 z) → IsCountedTimes i w z
zero_counted_times w i z counted = λ scale places positive on within.
    let unit : ℕ = scale * 10 ^ places in
    let none = counted unit (scaled_positive scale places positive) in
    let most : ℕ = weight_size places w * greatest scale (range.Meets i) in
    record { low = counted_more unit most z.low none.low; high = counted_more unit most z.high none.high }

-- and others

module _ (w : Shortest) (k : Ratio) (same : SameNumber (fraction_of k) (decimal_number w)) (i m : Interval Ratio) where
  by_weight : (x : Fraction) → SameNumber (product_of x (fraction_of k)) (product_of x (decimal_number w))
  by_weight x = same-product x (fraction_of k) x (decimal_number w) (same-refl x) same

  pub other_holds : ((x : Fraction) → HasNumber (numbers_of m) x ↔ IsMultiple (fraction_of k) (numbers_of i) x) → Holds m (IsWeighted w (HasNumber (numbers_of i)))
  other_holds multiples = λ x. (
    λ has.
        let made = (multiples x).0 has in
        let by_k : Fraction = product_of made.from (fraction_of k) in
        let by_w : Fraction = product_of made.from (decimal_number w) in
        record { number = made.from; has = made.lies; is = same-trans by_w by_k x (same-sym by_k by_w (by_weight made.from)) made.makes },
    λ t. (multiples x).1 (record { from = t.number; lies = t.has; makes = same-trans (product_of t.number (fraction_of k)) (product_of t.number (decimal_number w)) x (by_weight t.number) t.is }),
  )

  other_end : (e n : End Ratio) → IsMadeEnd SameNumber (λ y. product_of y (fraction_of k)) (end_at (λ f. fraction_of f) e) (end_at (λ f. fraction_of f) n) → SameNumber (fraction_of (value_of n)) (product_of (fraction_of (value_of e)) (decimal_number w))
  other_end e n made =
      let x : Fraction = fraction_of (value_of e) in
      let at : SameNumber (fraction_of (value_of n)) (product_of x (fraction_of k)) =
      subst (λ y. SameNumber y (product_of x (fraction_of k))) (number_at n) (subst (λ y. SameNumber (value_of (end_at (λ f. fraction_of f) n)) (product_of y (fraction_of k))) (number_at e) made.at) in
      same-trans (fraction_of (value_of n)) (product_of x (fraction_of k)) (product_of x (decimal_number w)) at (by_weight x)

  signs : (n : ℤ) → n ≢ pos 0 → (pos 0 <ℤ n) ⊎ (n <ℤ pos 0)
  signs (pos zero) some = absurd (some refl)
  signs (pos (suc n)) some = inl (omega (arith, ints))
  signs (negsuc n) some = inr (omega (arith, ints))

  pub other_counted : k.num ≢ pos 0 → IsScaled (fraction_of k) (numbers_of i) (numbers_of m) → IsCountedTimes i w m
  other_counted some scaled = elim (signs k.num some) [
    | inl up ↦ let kept = scaled.0 up in kept_counted w i m (record { low = other_end i.low m.low kept.low; high = other_end i.high m.high kept.high })
    | inr down ↦ let turned = scaled.1 down in turned_counted w i m (record { low = other_end i.high m.low turned.low; high = other_end i.low m.high turned.high })
  ]

-- digits of 0 are the number 0
pub not_zero : (w : Shortest) → ¬ ((w.digits ≡ pos 0) × (w.places ≡ 0)) → w.digits ≢ pos 0
not_zero w other is =
    let none : unsigned_abs w.digits % 10 ≡ 0 = ap (λ z. unsigned_abs z % 10) is in
    other (is, w.shortest.shortest none)

pub weight_some : (w : Shortest) (k : Ratio) → IsOver k w.digits (10 ^ w.places) → w.digits ≢ pos 0 → k.num ≢ pos 0
weight_some w k over some none = some ((sign_over k w.digits (10 ^ w.places) over).zero.0 none)
