-- Ends, sums and values over the scale of a forest.
use Rattle.std.proofs.Common.{◌≡◌, ℕ, zero, suc, ◌*◌, ◌/◌, ◌<◌, ◌≤◌, Bool, true, false, List, [], ◌∷◌, length, ℤ, pos, neg_ℤ, ◌+ℤ◌, ◌*ℤ◌, sym, ap, ◌∙◌, arith}
use Rattle.std.proofs.Math.Nat.{mul-pos, dvd-mul_left, dvd-mul_right}
use Rattle.std.proofs.lemmas.Nat.Gcd.{dvd_trans}
use Rattle.std.proofs.lemmas.Int.{ints}
use Rattle.std.proofs.lemmas.List.{get_or_past}
use Prim.Native.Nat.{◌∣◌}
use native.Mathlib.Nat.{mul-div_cancel'}
use lib.IntN.{zero-*ℤ}
use Rattle.xc_model.proofs.Pairs.{same_pairs}
use Rattle.xc_forest.specs.Forests.{range_at, parts_below, sum_below, worth_of, Choice, Neither, Plus, Minus}
use Rattle.xc_forest.specs.Steps.Scaled.{scale_of_pair, scale_of, times_scale, whole_over, span_over, first_spans}
use Rattle.xc_forest.specs.Steps.Vertices.{Span, no_span, no_parts, part, worth}
use Rattle.xc_interval.specs.Ends.{value_of}
use Rattle.xc_interval.specs.declared.ends.End.TheVariants.{Closed}
use Rattle.xc_interval.specs.declared.interval.Interval.{Interval}
use Rattle.xc_model.specs.Fraction.{Fraction, SameNumber, IsNumberOver}
use Rattle.xc_model.specs.Parts.{Parts, SameParts, WholeParts, ArePartsOver, zero_parts, sum_parts, neg_parts}
use Rattle.xc_model.proofs.Integers.{ring}
use Rattle.xc_model.proofs.Numbers.{same-sym, same-trans}
use Rattle.xc_model.proofs.NumbersOver.{number_same, sum_number, neg_number}
use Rattle.xc_model.proofs.Over.{ratio}

-- ---- the scale
positive_pair : (x : Parts) → 0 < scale_of_pair x
positive_pair x = mul-pos x.real.positive x.tiny.positive

pub positive_scale : (ranges : List (Interval Parts)) → 0 < scale_of ranges
positive_scale [] = omega arith
positive_scale (r ∷ rs) = mul-pos (mul-pos (positive_pair (value_of r.low)) (positive_pair (value_of r.high))) (positive_scale rs)

-- a pair has whole parts over a multiple of its scale
number_over_scale : (d : ℕ) (x : Fraction) → 0 < d → x.den ∣ d → IsNumberOver x (times_scale d x) d
number_over_scale d x p h =
    let d_is : x.den * (d / x.den) ≡ d = mul-div_cancel' x.den h in
    let whole : pos x.den *ℤ pos (d / x.den) ≡ pos d = ap (λ (z : ℕ). pos z) d_is in
    let turned : x.num *ℤ (pos x.den *ℤ pos (d / x.den)) ≡ (x.num *ℤ pos (d / x.den)) *ℤ pos x.den = simp ring in
    record { positive = p; cross = ap (λ (z : ℤ). x.num *ℤ z) (sym whole) ∙ turned }

pub pair_over_scale : (d : ℕ) (x : Parts) → 0 < d → scale_of_pair x ∣ d → ArePartsOver x (whole_over d x) d
pair_over_scale d x p h = record {
  real = number_over_scale d x.real p (dvd_trans x.real.den (dvd-mul_right x.real.den x.tiny.den) h);
  tiny = number_over_scale d x.tiny p (dvd_trans x.tiny.den (dvd-mul_left x.tiny.den x.real.den) h);
}

pub divides_at : (ranges : List (Interval Parts)) (p : ℕ) → p < length ranges → (scale_of_pair (value_of (range_at ranges p).low) ∣ scale_of ranges) × (scale_of_pair (value_of (range_at ranges p).high) ∣ scale_of ranges)
divides_at [] p l = absurd (omega arith)
divides_at (r ∷ rs) zero l =
    let low = scale_of_pair (value_of r.low) in
    let high = scale_of_pair (value_of r.high) in
    (dvd_trans low (dvd-mul_right low high) (dvd-mul_right (low * high) (scale_of rs)), dvd_trans high (dvd-mul_left high low) (dvd-mul_right (low * high) (scale_of rs)))
divides_at (r ∷ rs) (suc p) l =
    let i = divides_at rs p (omega arith) in
    let w = dvd-mul_left (scale_of rs) (scale_of_pair (value_of r.low) * scale_of_pair (value_of r.high)) in
    (dvd_trans _ i.0 w, dvd_trans _ i.1 w)

module _ (ranges : List (Interval Parts)) where
  pub first_low : (p : ℕ) → p < length ranges → ArePartsOver (value_of (range_at ranges p).low) (first_spans ranges p).low (scale_of ranges)
  first_low p l = pair_over_scale (scale_of ranges) (value_of (range_at ranges p).low) (positive_scale ranges) (divides_at ranges p l).0

  pub first_high : (p : ℕ) → p < length ranges → ArePartsOver (value_of (range_at ranges p).high) (first_spans ranges p).high (scale_of ranges)
  first_high p l = pair_over_scale (scale_of ranges) (value_of (range_at ranges p).high) (positive_scale ranges) (divides_at ranges p l).1

  -- a row has the span of 0 alone
  pub first_none : (v : ℕ) → length ranges ≤ v → first_spans ranges v ≡ no_span
  first_none v l = ap (span_over (scale_of ranges)) (get_or_past ranges v (record { low = Closed zero_parts; high = Closed zero_parts }) l) ∙ (λ i. record { low = none i; high = none i })
    where
      none : whole_over (scale_of ranges) zero_parts ≡ no_parts
      none = same_pairs _ _ (zero-*ℤ (pos (scale_of ranges / 1))) (zero-*ℤ (pos (scale_of ranges / 1)))

-- ---- sums and negatives
pub zero_parts_over : (d : ℕ) → 0 < d → ArePartsOver zero_parts no_parts d
zero_parts_over d p = record { real = record { positive = p; cross = omega (arith, ints) }; tiny = record { positive = p; cross = omega (arith, ints) } }

pub sum_parts_over : (x y : Parts) (a b : WholeParts) (d : ℕ) → ArePartsOver x a d → ArePartsOver y b d → ArePartsOver (sum_parts x y) (record { real = a.real +ℤ b.real; tiny = a.tiny +ℤ b.tiny }) d
sum_parts_over x y a b d h k = record { real = sum_number x.real y.real a.real b.real d h.real k.real; tiny = sum_number x.tiny y.tiny a.tiny b.tiny d h.tiny k.tiny }

pub neg_parts_over : (x : Parts) (a : WholeParts) (d : ℕ) → ArePartsOver x a d → ArePartsOver (neg_parts x) (record { real = neg_ℤ a.real; tiny = neg_ℤ a.tiny }) d
neg_parts_over x a d h = record { real = neg_number x.real a.real d h.real; tiny = neg_number x.tiny a.tiny d h.tiny }

same_number_over : (x y : Fraction) (n m : ℤ) (d : ℕ) → n ≡ m → IsNumberOver x n d → IsNumberOver y m d → SameNumber x y
same_number_over x y n m d e h k =
    let k' : IsNumberOver y n d = rw e k in
    same-trans x (ratio n d h.positive) y (number_same x n d h) (same-sym y (ratio n d h.positive) (record { cross = k'.cross }))

-- what has the same parts over d is the same
pub same_over : (x y : Parts) (a b : WholeParts) (d : ℕ) → ((c : Bool) → part c a ≡ part c b) → ArePartsOver x a d → ArePartsOver y b d → SameParts x y
same_over x y a b d e h k = record { real = same_number_over x.real y.real a.real b.real d (e false) h.real k.real; tiny = same_number_over x.tiny y.tiny a.tiny b.tiny d (e true) h.tiny k.tiny }

pub parts_below_over : (n : ℕ) (f : ℕ → Parts) (h : ℕ → WholeParts) (d : ℕ) → 0 < d → ((j : ℕ) → j < n → ArePartsOver (f j) (h j) d) → ArePartsOver (parts_below n f) (record { real = sum_below n (λ j. (h j).real); tiny = sum_below n (λ j. (h j).tiny) }) d
parts_below_over zero f h d p k = zero_parts_over d p
parts_below_over (suc n) f h d p k = sum_parts_over (parts_below n f) (f n) _ (h n) d (parts_below_over n f h d p (λ j l. k j (omega arith))) (k n (omega arith))

-- what a choice is worth
abbrev pub worth_pair : Choice → Span → WholeParts
worth_pair k a = record { real = worth false k a; tiny = worth true k a }

pub worth_over : (k : Choice) (range : Interval Parts) (a : Span) (d : ℕ) → ArePartsOver (value_of range.low) a.low d → ArePartsOver (value_of range.high) a.high d → ArePartsOver (worth_of k range) (worth_pair k a) d
worth_over Neither range a d low high = zero_parts_over d low.real.positive
worth_over (Plus false) range a d low high = low
worth_over (Plus true) range a d low high = high
worth_over (Minus false) range a d low high = neg_parts_over (value_of range.low) a.low d low
worth_over (Minus true) range a d low high = neg_parts_over (value_of range.high) a.high d high
