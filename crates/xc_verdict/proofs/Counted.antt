-- Ends that are whole numbers of one unit: of sums and of weighted intervals, where no operation passes.
use Rattle.std.proofs.Common.{◌≡◌, ℕ, ◌+◌, ◌-◌, ◌*◌, ◌/◌, ◌<◌, ◌≤◌, ◌^◌, ℤ, pos, ◌+ℤ◌, ◌*ℤ◌, inl, inr, refl, sym, ap, subst, ◌∙◌, arith}
use Rattle.std.specs.Prelude.{unsigned_abs}
use Rattle.std.proofs.lemmas.Int.{ints, unsigned_abs-mul}
use Rattle.std.proofs.Math.Nat.{mul-le-mul_left}
use native.Mathlib.Nat.{mul-div_cancel'}
use Rattle.xc_decimal.specs.Shortest.{Shortest, decimal_number}
use Rattle.xc_model.specs.Fraction.{Fraction, SameNumber, sum_of, product_of}
use Rattle.xc_model.specs.Ratio.{Ratio, fraction_of}
use Rattle.xc_model.specs.Width.{IsNarrow, ProductPasses}
use Rattle.xc_model.proofs.Integers.{ring}
use Rattle.xc_model.proofs.Numbers.{same-refl, same-trans, same-product}
use Rattle.xc_model.proofs.NumbersOver.{lowest_room, same_number}
use Rattle.xc_model.proofs.Over.{ratio, same_over, sum_over, sum_room}
use Rattle.xc_model.specs.Parts.{SameParts, sum_parts}
use Rattle.xc_frac.specs.Passes.{PassesAs, FirstPasses}
use Rattle.xc_frac.specs.declared.wide.Op.TheVariants.{Add, Mul}
use Rattle.xc_frac.specs.declared.wide.Wide.{Wide}
use Rattle.xc_interval.specs.Arithmetic.{IsSumEnd, IsSumInterval}
use Rattle.xc_interval.specs.Ends.{value_of, end_at}
use Rattle.xc_interval.specs.Intervals.{pairs_of, frac_parts}
use Rattle.xc_interval.specs.declared.ends.End.{End}
use Rattle.xc_interval.specs.declared.ends.End.TheVariants.{Closed, Open}
use Rattle.xc_interval.specs.declared.interval.Interval.{Interval}
use Rattle.xc_interval.specs.declared.range.Range.TheVariants as range
use Rattle.xc_verdict.specs.Steps.Sums.{IsCounted, AreCounted, HasRoomFor, HasRoomTimes, IsCountedTimes}
use Rattle.xc_bind.specs.Equation.{whole_weight}
use Rattle.xc_interval.specs.Scales.{IsOnScale, size_of, greatest}
use Rattle.xc_verdict.specs.Widths.{weight_size}
use Rattle.xc_verdict.proofs.Values.{scaled_positive, term_number}

-- ---- sums

pub real_at : (e : End Ratio) → (value_of (end_at frac_parts e)).real ≡ fraction_of (value_of e)
real_at (Closed f) = refl
real_at (Open f) = refl

pub number_at : (e : End Ratio) → value_of (end_at (λ f. fraction_of f) e) ≡ fraction_of (value_of e)
number_at (Closed f) = refl
number_at (Open f) = refl

sum_end_counted : (unit n m : ℕ) (e f s : End Ratio) → IsSumEnd SameParts sum_parts (end_at frac_parts e) (end_at frac_parts f) (end_at frac_parts s) → IsCounted unit n e → IsCounted unit m f → IsCounted unit (n + m) s
sum_end_counted unit n m e f s sum left right =
    let at : SameNumber (fraction_of (value_of s)) (sum_of (fraction_of (value_of e)) (fraction_of (value_of f))) =
    subst (λ x. SameNumber x (sum_of (fraction_of (value_of e)) (fraction_of (value_of f)))) (real_at s)
    (subst (λ x. SameNumber (value_of (end_at frac_parts s)).real (sum_of x (fraction_of (value_of f)))) (real_at e)
    (subst (λ x. SameNumber (value_of (end_at frac_parts s)).real (sum_of (value_of (end_at frac_parts e)).real x)) (real_at f) sum.at.real)) in
    record {
      count = left.count +ℤ right.count;
      is = sum_over (value_of e) (value_of f) (value_of s) left.count right.count unit at left.is right.is;
      within = omega (arith, ints, left.within, right.within);
    }

pub sum_counted : (unit n m : ℕ) (i j s : Interval Ratio) → IsSumInterval SameParts sum_parts (pairs_of frac_parts i) (pairs_of frac_parts j) (pairs_of frac_parts s) → AreCounted unit n i → AreCounted unit m j → AreCounted unit (n + m) s
sum_counted unit n m i j s sum left right = record {
  low = sum_end_counted unit n m i.low j.low s.low sum.low left.low right.low;
  high = sum_end_counted unit n m i.high j.high s.high sum.high left.high right.high;
}

no_end_sum : (unit n m : ℕ) (e f : End Ratio) (w : Wide) → unit < 2 ^ 127 → n + m < 2 ^ 127 → IsCounted unit n e → IsCounted unit m f → PassesAs Add (value_of e) (value_of f) w → ⊥
no_end_sum unit n m e f w small room left right passes = sum_room (value_of e) (value_of f) left.count right.count unit left.is right.is small (omega (arith, left.within)) (omega (arith, right.within)) (omega (arith, ints, left.within, right.within)) passes.1

-- a sum that has room does not pass
pub no_sum : (i j : Interval Ratio) (w : Wide) → HasRoomFor i j → FirstPasses (PassesAs Add (value_of i.low) (value_of j.low)) (PassesAs Add (value_of i.high) (value_of j.high)) w → ⊥
no_sum i j w room (inl low) = no_end_sum room.unit room.first room.second i.low j.low w room.unit_fits room.fits room.one_counted.low room.other_counted.low low
no_sum i j w room (inr high) = no_end_sum room.unit room.first room.second i.high j.high w room.unit_fits room.fits room.one_counted.high room.other_counted.high high.1

-- ---- products

-- a product that is n/d in any terms, both narrow, does not pass
product_room : (x y : Fraction) (n : ℤ) (d : ℕ) (p : 0 < d) → SameNumber (product_of x y) (ratio n d p) → IsNarrow n → d < 2 ^ 127 → ProductPasses x y → ⊥
product_room x y n d p same narrow small w = lowest_room w.lowest n d (same_number w.lowest n d p (same-trans w.lowest (product_of x y) (ratio n d p) w.same same)) narrow small w.wide

-- a number whose denominator divides d, over d
on_scale : (x : Ratio) (d : ℕ) (p : 0 < d) → IsOnScale d x → SameNumber (fraction_of x) (ratio (x.num *ℤ pos (d / unsigned_abs x.den)) d p)
on_scale x d p divides = record {
  cross =
      let whole : pos (unsigned_abs x.den) *ℤ pos (d / unsigned_abs x.den) ≡ pos d = ap (λ (z : ℕ). pos z) (mul-div_cancel' (unsigned_abs x.den) divides) in
      let e : (n k d : ℤ) → n *ℤ (d *ℤ k) ≡ (n *ℤ k) *ℤ d = λ n k d. simp ring in
      ap (λ z. x.num *ℤ z) (sym whole) ∙ e x.num (pos (d / unsigned_abs x.den)) (pos (unsigned_abs x.den));
}

module _ (scale places : ℕ) (positive : 0 < scale) (weight : Shortest) (within : weight.places ≤ places) (x : Ratio) (on : IsOnScale scale x) where
  abbrev value : ℤ
  value = x.num *ℤ pos (scale / unsigned_abs x.den)

  abbrev count : ℤ
  count = whole_weight places weight *ℤ value

  abbrev unit_positive : 0 < scale * 10 ^ places
  unit_positive = scaled_positive scale places positive

  -- the product with the weight is a whole number of the unit
  product_is : (k : Fraction) → SameNumber k (decimal_number weight) → SameNumber (product_of (fraction_of x) k) (ratio count (scale * 10 ^ places) unit_positive)
  product_is k same =
      let over : Fraction = ratio value scale positive in
      let w : Fraction = decimal_number weight in
      same-trans (product_of (fraction_of x) k) (product_of over w) (ratio count (scale * 10 ^ places) unit_positive)
      (same-product (fraction_of x) k over w (on_scale x scale positive on) same) (term_number places weight value scale positive within)

  count_size : unsigned_abs count ≡ weight_size places weight * size_of scale x
  count_size =
      unsigned_abs-mul (whole_weight places weight) value
      ∙ ap (λ n. n * unsigned_abs value) (unsigned_abs-mul weight.digits (pos (10 ^ (places - weight.places))))
      ∙ ap (λ n. weight_size places weight * n) (unsigned_abs-mul x.num (pos (scale / unsigned_abs x.den)))

  module _ (most : ℕ) (below : size_of scale x ≤ most) where
    count_within : unsigned_abs count ≤ weight_size places weight * most
    count_within = omega (arith, count_size, mul-le-mul_left (weight_size places weight) below)

    -- an end at the product is counted
    pub counted_end : (m : End Ratio) → SameNumber (fraction_of (value_of m)) (product_of (fraction_of x) (decimal_number weight)) → IsCounted (scale * 10 ^ places) (weight_size places weight * most) m
    counted_end m at = record {
      count = count;
      is = same_over (value_of m) count (scale * 10 ^ places) unit_positive
          (same-trans (fraction_of (value_of m)) (product_of (fraction_of x) (decimal_number weight)) (ratio count (scale * 10 ^ places) unit_positive) at (product_is (decimal_number weight) (same-refl (decimal_number weight))));
      within = count_within;
    }

    -- and the product does not pass
    pub no_end_product : (k : Ratio) (w : Wide) → SameNumber (fraction_of k) (decimal_number weight) → scale * 10 ^ places < 2 ^ 127 → weight_size places weight * most < 2 ^ 127 → PassesAs Mul x k w → ⊥
    no_end_product k w same small room passes = product_room (fraction_of x) (fraction_of k) count (scale * 10 ^ places) unit_positive (product_is (fraction_of k) same) (omega (arith, count_within, room)) small passes.1

-- each end of the one is the product of an end of the other with the weight
pub record IsProduct (weight : Shortest) (l h : End Ratio) (m : Interval Ratio) : Type 0 where
  pub low : SameNumber (fraction_of (value_of m.low)) (product_of (fraction_of (value_of l)) (decimal_number weight))
  pub high : SameNumber (fraction_of (value_of m.high)) (product_of (fraction_of (value_of h)) (decimal_number weight))

pub kept_counted : (weight : Shortest) (i m : Interval Ratio) → IsProduct weight i.low i.high m → IsCountedTimes i weight m
kept_counted weight i m made = λ scale places positive on within. record {
  low = counted_end scale places positive weight within (value_of i.low) on.0 (greatest scale (range.Meets i)) (omega arith) m.low made.low;
  high = counted_end scale places positive weight within (value_of i.high) on.1 (greatest scale (range.Meets i)) (omega arith) m.high made.high;
}

pub turned_counted : (weight : Shortest) (i m : Interval Ratio) → IsProduct weight i.high i.low m → IsCountedTimes i weight m
turned_counted weight i m made = λ scale places positive on within. record {
  low = counted_end scale places positive weight within (value_of i.high) on.1 (greatest scale (range.Meets i)) (omega arith) m.low made.low;
  high = counted_end scale places positive weight within (value_of i.low) on.0 (greatest scale (range.Meets i)) (omega arith) m.high made.high;
}

-- a product that has room does not pass
pub no_product : (i : Interval Ratio) (weight : Shortest) (k : Ratio) (w : Wide) → SameNumber (fraction_of k) (decimal_number weight) → HasRoomTimes i weight
    → FirstPasses (PassesAs Mul (value_of i.low) k) (PassesAs Mul (value_of i.high) k) w → ⊥
no_product i weight k w same room (inl low) = no_end_product room.scale room.places room.positive weight room.within (value_of i.low) room.on_scale.0 (greatest room.scale (range.Meets i)) (omega arith) k w same room.unit_fits room.fits low
no_product i weight k w same room (inr high) = no_end_product room.scale room.places room.positive weight room.within (value_of i.high) room.on_scale.1 (greatest room.scale (range.Meets i)) (omega arith) k w same room.unit_fits room.fits high.1
