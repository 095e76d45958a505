-- Sums that need no common denominator: of whole numbers, and with 0.
use Rattle.std.proofs.Common.{◌≡◌, ℕ, lit<, arith, ℤ, pos, refl, sym, ◌∙◌, ap, subst}
use Rattle.std.specs.Prelude.{◌+ℤ◌, ◌*ℤ◌, unsigned_abs}
use Rattle.std.proofs.lemmas.Int.{ints}
use native.Mathlib.Nat.{eq-one_of_dvd-one}
use Rattle.xc_model.specs.Fraction.{Fraction, SameNumber, IsNumberOver, sum_of}
use Rattle.xc_model.specs.Ratio.{Ratio, IsLowest, fraction_of}
use Rattle.xc_model.specs.Width.{IsNarrow, SumPasses}
use Rattle.xc_model.proofs.Numbers.{same-sym, same-trans}
use Rattle.xc_model.proofs.NumbersOver.{over_number, number_same, sum_number, zero_over, sum_of_fits}
use Rattle.xc_model.proofs.Over.{ratio}
use Rattle.xc_frac.proofs.ClearedTerms.{cleared_equal, sum_passes}

-- what is one number over d is the same
same_over_both : (x y : Fraction) (n : ℤ) (d : ℕ) → IsNumberOver x n d → IsNumberOver y n d → SameNumber x y
same_over_both x y n d left right =
    let r = ratio n d left.positive in
    same-trans x r y (number_same x n d left) (same-sym y r (record { cross = right.cross }))

-- a whole number, over 1
at_one : (f : Ratio) → f.den ≡ pos 1 → IsNumberOver (fraction_of f) f.num 1
at_one f e = over_number f f.num 1 (record { positive = lit< tt; same = ap (λ z. f.num *ℤ z) (sym e) })

pub whole_lowest : (n m : ℤ) → n ≡ m → IsNarrow m → IsLowest n (pos 1)
whole_lowest n m e narrow = record {
  positive = omega (arith, ints);
  num_narrow = subst IsNarrow (sym e) narrow;
  den_narrow = lit< tt;
  coprime = λ k l r. eq-one_of_dvd-one r;
}

module _ (f g : Ratio) where
  module _ (left : f.den ≡ pos 1) (right : g.den ≡ pos 1) where
    pub whole_sum_is : (r : Ratio) → r.num ≡ f.num +ℤ g.num → r.den ≡ pos 1 → SameNumber (fraction_of r) (sum_of (fraction_of f) (fraction_of g))
    whole_sum_is r num den =
        same_over_both (fraction_of r) (sum_of (fraction_of f) (fraction_of g)) (f.num +ℤ g.num) 1
        (subst (λ z. IsNumberOver (fraction_of r) z 1) num (at_one r den)) (sum_number (fraction_of f) (fraction_of g) f.num g.num 1 (at_one f left) (at_one g right))

    pub whole_sum_fits : IsNarrow (f.num +ℤ g.num) → ¬ (SumPasses (fraction_of f) (fraction_of g))
    whole_sum_fits narrow =
        sum_of_fits f g f.num g.num 1 (at_one f left) (at_one g right) (record { den = lit< tt; left = f.lowest.num_narrow; right = g.lowest.num_narrow; sum = narrow })

    pub whole_sum_passes : ¬ (IsNarrow (f.num +ℤ g.num)) → SumPasses (fraction_of f) (fraction_of g)
    whole_sum_passes wide =
        let e : f.num *ℤ pos 1 +ℤ g.num *ℤ pos 1 ≡ f.num +ℤ g.num = omega (arith, ints) in
        sum_passes f.num f.den g.num g.den (pos 1) (pos 1) f.lowest.positive g.lowest.positive (cleared_equal f.den g.den (left ∙ sym right)) (λ narrow. wide (subst IsNarrow e narrow))

  at_own : IsNumberOver (fraction_of g) g.num (unsigned_abs g.den)
  at_own = record { positive = (fraction_of g).positive; cross = refl }

  -- 0 added on the left changes nothing
  module _ (none : f.num ≡ pos 0) where
    at_zero : IsNumberOver (fraction_of f) (pos 0) (unsigned_abs g.den)
    at_zero = zero_over (fraction_of f) (unsigned_abs g.den) (fraction_of g).positive (record { cross = omega (arith, ints, none) })

    pub zero_sum_is : SameNumber (fraction_of g) (sum_of (fraction_of f) (fraction_of g))
    zero_sum_is =
        let same : pos 0 +ℤ g.num ≡ g.num = omega (arith, ints) in
        same_over_both (fraction_of g) (sum_of (fraction_of f) (fraction_of g)) g.num (unsigned_abs g.den) at_own
        (subst (λ z. IsNumberOver (sum_of (fraction_of f) (fraction_of g)) z (unsigned_abs g.den)) same (sum_number (fraction_of f) (fraction_of g) (pos 0) g.num (unsigned_abs g.den) at_zero at_own))

    pub zero_sum_fits : ¬ (SumPasses (fraction_of f) (fraction_of g))
    zero_sum_fits =
        let same : g.num ≡ pos 0 +ℤ g.num = omega (arith, ints) in
        sum_of_fits f g (pos 0) g.num (unsigned_abs g.den) at_zero at_own
        (record { den = g.lowest.den_narrow; left = lit< tt; right = g.lowest.num_narrow; sum = subst IsNarrow same g.lowest.num_narrow })

  -- nor on the right
  module _ (none : g.num ≡ pos 0) where
    at_other : IsNumberOver (fraction_of g) (pos 0) (unsigned_abs f.den)
    at_other = zero_over (fraction_of g) (unsigned_abs f.den) (fraction_of f).positive (record { cross = omega (arith, ints, none) })

    at_first : IsNumberOver (fraction_of f) f.num (unsigned_abs f.den)
    at_first = record { positive = (fraction_of f).positive; cross = refl }

    pub sum_zero_is : SameNumber (fraction_of f) (sum_of (fraction_of f) (fraction_of g))
    sum_zero_is =
        let same : f.num +ℤ pos 0 ≡ f.num = omega (arith, ints) in
        same_over_both (fraction_of f) (sum_of (fraction_of f) (fraction_of g)) f.num (unsigned_abs f.den) at_first
        (subst (λ z. IsNumberOver (sum_of (fraction_of f) (fraction_of g)) z (unsigned_abs f.den)) same (sum_number (fraction_of f) (fraction_of g) f.num (pos 0) (unsigned_abs f.den) at_first at_other))

    pub sum_zero_fits : ¬ (SumPasses (fraction_of f) (fraction_of g))
    sum_zero_fits =
        let same : f.num ≡ f.num +ℤ pos 0 = omega (arith, ints) in
        sum_of_fits f g f.num (pos 0) (unsigned_abs f.den) at_first at_other
        (record { den = f.lowest.den_narrow; left = f.lowest.num_narrow; right = lit< tt; sum = subst IsNarrow same f.lowest.num_narrow })
