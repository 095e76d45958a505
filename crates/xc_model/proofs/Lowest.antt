-- Lowest terms: a number has one such form, and where that fits, nothing passes.
use Rattle.std.proofs.Common.{◌≡◌, ℕ, ◌*◌, arith, ℤ, pos, sym, ◌∙◌, ap, subst, inl, inr}
use Rattle.std.specs.Prelude.{◌*ℤ◌, unsigned_abs}
use Rattle.std.proofs.lemmas.Int.{unsigned_abs-mul}
use Rattle.std.proofs.lemmas.Nat.Gcd.{dvd_antisymm}
use Prim.Native.Nat.{◌∣◌}
use native.Mathlib.Nat.{dvd-mul_left}
use Rattle.xc_model.specs.Divisors.{IsCoprime}
use Rattle.xc_model.specs.Fraction.{Fraction, SameNumber, neg_of, product_of, IsQuotient}
use Rattle.xc_model.specs.Width.{IsNarrow, IsWide, IsWideLowest, ProductPasses, QuotientPasses}
use Rattle.xc_model.proofs.Gauss.{gauss, IsCoprime-swap}
use Rattle.xc_model.proofs.Integers.{cancel, mul_comm, unsigned_abs-neg}
use Rattle.xc_model.proofs.Numbers.{den_some, same-sym, same-trans, quotient_unique}

-- x and y have the same numerator and denominator
pub record SameTerms (x y : Fraction) : Type 0 where
  pub num : x.num ≡ y.num
  pub den : x.den ≡ y.den

pub same_terms-sym : (x y : Fraction) → SameTerms x y → SameTerms y x
same_terms-sym x y h = record { num = sym h.num; den = sym h.den }

-- the denominator in lowest terms divides every other
pub lowest_den_divides : (x y : Fraction) → SameNumber x y → IsCoprime (unsigned_abs x.num) x.den → x.den ∣ y.den
lowest_den_divides x y h co =
    let size : unsigned_abs x.num * y.den ≡ unsigned_abs y.num * x.den = sym (unsigned_abs-mul x.num (pos y.den)) ∙ ap unsigned_abs h.cross ∙ unsigned_abs-mul y.num (pos x.den) in
    gauss x.den (unsigned_abs x.num) y.den (IsCoprime-swap _ _ co) (subst (λ z. x.den ∣ z) (sym size) (dvd-mul_left x.den (unsigned_abs y.num)))

pub lowest_unique : (x y : Fraction) → SameNumber x y → IsCoprime (unsigned_abs x.num) x.den → IsCoprime (unsigned_abs y.num) y.den → SameTerms x y
lowest_unique x y h co co' =
    let den : x.den ≡ y.den = dvd_antisymm (lowest_den_divides x y h co) (lowest_den_divides y x (same-sym x y h) co') in
    let scaled : pos x.den *ℤ x.num ≡ pos x.den *ℤ y.num = mul_comm (pos x.den) x.num ∙ ap (λ (z : ℕ). x.num *ℤ pos z) den ∙ h.cross ∙ mul_comm y.num (pos x.den) in
    record { num = cancel (pos x.den) x.num y.num (den_some x) scaled; den = den }

-- a number that is narrow is not wide
pub narrow_or_wide : (y z : ℤ) → y ≡ z → IsNarrow y → IsWide z → ⊥
narrow_or_wide y z e narrow wide = omega (arith, ap unsigned_abs e)

-- a number that fits in lowest terms is not wide there
pub fits_not_wide : (x y : Fraction) → SameNumber x y → IsCoprime (unsigned_abs x.num) x.den → IsNarrow x.num → IsNarrow (pos x.den) → IsWideLowest y → ⊥
fits_not_wide x y h co num den w =
    let same = lowest_unique x y h co w.coprime in
    elim w.wide [
      | inl wide ↦ narrow_or_wide x.num y.num same.num num wide
      | inr wide ↦ narrow_or_wide (pos x.den) (pos y.den) (ap (λ (z : ℕ). pos z) same.den) den wide
    ]

pub product_fits : (r x y : Fraction) → SameNumber r (product_of x y) → IsCoprime (unsigned_abs r.num) r.den → IsNarrow r.num → IsNarrow (pos r.den) → ProductPasses x y → ⊥
product_fits r x y h co num den w =
    fits_not_wide r w.lowest (same-trans r (product_of x y) w.lowest h (same-sym w.lowest (product_of x y) w.same)) co num den w.wide

pub quotient_fits : (r x y : Fraction) → IsQuotient r x y → IsCoprime (unsigned_abs r.num) r.den → IsNarrow r.num → IsNarrow (pos r.den) → QuotientPasses x y → ⊥
quotient_fits r x y h co num den w = fits_not_wide r w.lowest (quotient_unique r w.lowest x y h w.same) co num den w.wide

-- the negative of a fraction in lowest terms has its denominator, and the negative of its numerator
pub neg_terms : (x y : Fraction) → SameNumber y (neg_of x) → IsCoprime (unsigned_abs x.num) x.den → IsCoprime (unsigned_abs y.num) y.den → SameTerms y (neg_of x)
neg_terms x y h co co' = lowest_unique y (neg_of x) h co' (subst (λ z. IsCoprime z x.den) (sym (unsigned_abs-neg x.num)) co)
