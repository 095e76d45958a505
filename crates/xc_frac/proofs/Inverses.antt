-- Negatives and inverses of fractions in lowest terms, and quotients as products with an inverse.
use Rattle.std.proofs.Common.{◌≡◌, ◌≢◌, ◌<◌, ◌^◌, arith, ℤ, pos, sym, ◌∙◌, ap, subst}
use Rattle.std.specs.Prelude.{◌-ℤ◌, ◌*ℤ◌, ◌<ℤ◌, ◌≤ℤ◌, neg_ℤ, unsigned_abs}
use Rattle.std.proofs.lemmas.Int.{ints}
use lib.IntN.{+ℤ_idl}
use Rattle.xc_model.specs.Divisors.{IsCoprime}
use Rattle.xc_model.specs.Fraction.{Fraction, neg_of, product_of, SameNumber, IsQuotient}
use Rattle.xc_model.specs.Ratio.{Ratio, IsLowest, fraction_of}
use Rattle.xc_model.specs.Width.{ProductPasses, QuotientPasses}
use Rattle.xc_model.proofs.Gauss.{IsCoprime-swap}
use Rattle.xc_model.proofs.Integers.{ring, cancel, pos-unsigned_abs}
use Rattle.xc_model.proofs.Lowest.{quotient_fits}

size : (z : ℤ) → unsigned_abs (pos 0 -ℤ z) ≡ unsigned_abs z
size z = omega (arith, ints)

pub neg_lowest : (n d : ℤ) → IsLowest n d → IsLowest (pos 0 -ℤ n) d
neg_lowest n d h = record {
  positive = h.positive;
  num_narrow = subst (λ z. z < 2 ^ 127) (sym (size n)) h.num_narrow;
  den_narrow = h.den_narrow;
  coprime = subst (λ z. IsCoprime z (unsigned_abs d)) (sym (size n)) h.coprime;
}

pub neg_is : (f r : Ratio) → r.num ≡ pos 0 -ℤ f.num → r.den ≡ f.den → SameNumber (fraction_of r) (neg_of (fraction_of f))
neg_is f r num den = record {
  cross = ap (λ z. z *ℤ pos (unsigned_abs f.den)) (num ∙ +ℤ_idl (neg_ℤ f.num)) ∙ ap (λ z. neg_ℤ f.num *ℤ pos (unsigned_abs z)) (sym den);
}

-- 1 over a positive number, and over a negative one
pub inverse_up : (n d : ℤ) → IsLowest n d → n ≢ pos 0 → pos 0 ≤ℤ n → IsLowest d n
inverse_up n d h some p = record {
  positive = omega (arith, ints, some);
  num_narrow = h.den_narrow;
  den_narrow = h.num_narrow;
  coprime = IsCoprime-swap _ _ h.coprime;
}

pub inverse_down : (n d : ℤ) → IsLowest n d → n <ℤ pos 0 → IsLowest (pos 0 -ℤ d) (pos 0 -ℤ n)
inverse_down n d h p = record {
  positive = omega (arith, ints);
  num_narrow = subst (λ z. z < 2 ^ 127) (sym (size d)) h.den_narrow;
  den_narrow = subst (λ z. z < 2 ^ 127) (sym (size n)) h.num_narrow;
  coprime = subst (λ z. IsCoprime z (unsigned_abs (pos 0 -ℤ n))) (sym (size d)) (subst (λ z. IsCoprime (unsigned_abs d) z) (sym (size n)) (IsCoprime-swap _ _ h.coprime));
}

pub inverse_down_cross : (n d : ℤ) → (pos 0 -ℤ d) *ℤ n ≡ (pos 0 -ℤ n) *ℤ d
inverse_down_cross n d = simp (+ℤ_idl, ring)

-- i is 1 over y
pub record IsInverse (i y : Ratio) : Type 0 where
  pub some : y.num ≢ pos 0
  pub cross : i.num *ℤ y.num ≡ i.den *ℤ y.den

quotient_cross : (a b n d c e x y : ℤ) → d ≢ pos 0 → n *ℤ c ≡ d *ℤ e → x *ℤ (b *ℤ d) ≡ (a *ℤ n) *ℤ y → (x *ℤ c) *ℤ b ≡ a *ℤ (y *ℤ e)
quotient_cross a b n d c e x y some inv same =
    let first : d *ℤ ((x *ℤ c) *ℤ b) ≡ (x *ℤ (b *ℤ d)) *ℤ c = simp ring in
    let second : ((a *ℤ n) *ℤ y) *ℤ c ≡ (a *ℤ y) *ℤ (n *ℤ c) = simp ring in
    let third : (a *ℤ y) *ℤ (d *ℤ e) ≡ d *ℤ (a *ℤ (y *ℤ e)) = simp ring in
    cancel d ((x *ℤ c) *ℤ b) (a *ℤ (y *ℤ e)) some (first ∙ ap (λ z. z *ℤ c) same ∙ second ∙ ap (λ z. (a *ℤ y) *ℤ z) inv ∙ third)

-- a product with the inverse is a quotient
pub quotient_by_inverse : (r x : Fraction) (i y : Ratio) → IsInverse i y → SameNumber r (product_of x (fraction_of i)) → IsQuotient r x (fraction_of y)
quotient_by_inverse r x i y inv same = record {
  some = inv.some;
  back = record {
    cross =
        let i_den = pos-unsigned_abs i.den i.lowest.positive in
        let y_den = pos-unsigned_abs y.den y.lowest.positive in
        let i_some : pos (unsigned_abs i.den) ≢ pos 0 = λ e. absurd (omega (arith, ints, i.lowest.positive, i_den, e)) in
        let cross = inv.cross ∙ ap (λ z. z *ℤ y.den) (sym i_den) ∙ ap (λ z. pos (unsigned_abs i.den) *ℤ z) (sym y_den) in
        quotient_cross x.num (pos x.den) i.num (pos (unsigned_abs i.den)) y.num (pos (unsigned_abs y.den)) r.num (pos r.den) i_some cross same.cross;
  };
}

pub quotient_passes : (x : Fraction) (i y : Ratio) → IsInverse i y → ProductPasses x (fraction_of i) → QuotientPasses x (fraction_of y)
quotient_passes x i y inv w = record { lowest = w.lowest; same = quotient_by_inverse w.lowest x i y inv w.same; wide = w.wide }

pub quotient_not_passes : (r i y : Ratio) (x : Fraction) → IsInverse i y → SameNumber (fraction_of r) (product_of x (fraction_of i)) → ¬ (QuotientPasses x (fraction_of y))
quotient_not_passes r i y x inv same =
    quotient_fits (fraction_of r) x (fraction_of y) (quotient_by_inverse (fraction_of r) x i y inv same) r.lowest.coprime r.lowest.num_narrow r.lowest.den_narrow
