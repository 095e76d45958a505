-- What lies in negatives and multiples of intervals.
use Rattle.std.proofs.Common.{◌≢◌, pos, arith, refl, inl, inr}
use Rattle.std.specs.Prelude.{◌↔◌}
use Rattle.std.proofs.lemmas.Int.{ints, by_lt_z}
use Rattle.xc_model.specs.Fraction.{Fraction, SameNumber, IsBelow, neg_of, product_of}
use Rattle.xc_model.proofs.Arithmetic.{quotient_exists, below-product, below-product_neg, below-neg}
use Rattle.xc_model.proofs.Integers.{neg-neg}
use Rattle.xc_model.proofs.Numbers.{same-refl, same-sym, same-neg, same-product}
use Rattle.xc_model.specs.Parts.{Parts, SameParts, IsLess, neg_parts}
use Rattle.xc_interval.specs.Arithmetic.{IsTurned, IsScaled, IsMultiple, IsNegativeOfPair, IsNegativeOfNumber}
use Rattle.xc_interval.specs.Intervals.{HasNumber, HasPair}
use Rattle.xc_interval.specs.Laws.{HasMultiples}
use Rattle.xc_interval.specs.declared.interval.Interval.{Interval}
use Rattle.xc_interval.proofs.Mapped.{kept, turned_round}
use Rattle.xc_interval.proofs.Numbers.{number_dense, pair_dense}

-- Negatives

number_back : (x : Fraction) → SameNumber (neg_of (neg_of x)) x
number_back x = record { cross = rw (neg-neg x.num) refl }

pub number_negatives : (i m : Interval Fraction) → IsTurned SameNumber neg_of i m → (x : Fraction) → HasNumber m x ↔ IsNegativeOfNumber i x
number_negatives i m ends =
    turned_round IsBelow SameNumber number_dense neg_of neg_of (λ x y h. same-neg x y h) number_back i m (λ x y h. below-neg x y h) ends

pair_same : (x y : Parts) → SameParts x y → SameParts (neg_parts x) (neg_parts y)
pair_same x y h = record { real = same-neg x.real y.real h.real; tiny = same-neg x.tiny y.tiny h.tiny }

pair_back : (x : Parts) → SameParts (neg_parts (neg_parts x)) x
pair_back x = record { real = number_back x.real; tiny = number_back x.tiny }

pair_turns : (x y : Parts) → IsLess x y → IsLess (neg_parts y) (neg_parts x)
pair_turns x y (inl below) = inl (below-neg x.real y.real below)
pair_turns x y (inr rest) = inr (same-neg y.real x.real (same-sym x.real y.real rest.0), below-neg x.tiny y.tiny rest.1)

pub pair_negatives : (i m : Interval Parts) → IsTurned SameParts neg_parts i m → (x : Parts) → HasPair m x ↔ IsNegativeOfPair i x
pair_negatives i m ends = turned_round IsLess SameParts pair_dense neg_parts neg_parts pair_same pair_back i m pair_turns ends

-- Multiples

module _ (k : Fraction) (some : k.num ≢ pos 0) where
  abbrev times : Fraction → Fraction
  times y = product_of y k

  over : Fraction → Fraction
  over x = (quotient_exists x k some).0

  times_over : (x : Fraction) → SameNumber (times (over x)) x
  unfolding over
  times_over x = (quotient_exists x k some).1.back

  times_same : (x y : Fraction) → SameNumber x y → SameNumber (times x) (times y)
  times_same x y h = same-product x k y k h (same-refl k)

  pub multiples_of : (i m : Interval Fraction) → IsScaled k i m → (x : Fraction) → HasNumber m x ↔ IsMultiple k i x
  multiples_of i m ends x =
      by_lt_z (pos 0) k.num
      (λ above. kept IsBelow SameNumber number_dense times over times_same times_over i m (λ x y h. below-product k x y (record { cross = omega (arith, ints) }) h) (ends.0 above) x)
      (λ below. by_lt_z k.num (pos 0)
      (λ under. turned_round IsBelow SameNumber number_dense times over times_same times_over i m (λ x y h. below-product_neg k x y (record { cross = omega (arith, ints) }) h) (ends.1 under) x)
      (λ above. absurd (some (omega (arith, ints)))))

pub multiples : HasMultiples
multiples k i m some ends x = multiples_of k some i m ends x
