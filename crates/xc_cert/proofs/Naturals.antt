-- Numbers as fractions.
use Rattle.std.proofs.Common.{◌≡◌, ◌≢◌, ℕ, ◌<◌, ◌^◌, ℤ, pos, negsuc, true, false, List, ◌++◌, Option, Some, None, refl, sym, ap, ◌∙◌, subst, arith, lit<, append-nil}
use Rattle.std.specs.Prelude.{◌↔◌, decimal, unsigned_abs, int_lt}
use Rattle.std.specs.Fmt.{signed_decimal}
use Rattle.std.specs.Option.{SomeIff}
use Rattle.std.proofs.lemmas.Int.{ints}
use native.Mathlib.Nat.{eq-one_of_dvd-one}
use Rattle.xc_cert.specs.Steps.Lines.{IsNumber, IsWhole}
use Rattle.xc_decimal.specs.Spelling.{spelling, denominator_text}
use Rattle.xc_model.specs.Ratio.{Ratio}

-- a number over 1
whole_ratio : (n : ℕ) → n < 2 ^ 32 → Ratio
whole_ratio n small = record {
  num = pos n;
  den = pos 1;
  lowest = record {
    positive = omega (arith, ints);
    num_narrow = let more : 2 ^ 32 < 2 ^ 127 = lit< tt in omega (arith, small, more);
    den_narrow = lit< tt;
    coprime = λ k left right. eq-one_of_dvd-one right;
  };
}

whole_spelling : (n : ℕ) (small : n < 2 ^ 32) → spelling (whole_ratio n small) ≡ decimal n
unfolding whole_ratio
whole_spelling n small = append-nil (decimal n)

whole_terms : (f : Ratio) (n : ℕ) (small : n < 2 ^ 32) → f ≡ whole_ratio n small → (f.num ≡ pos n) × (f.den ≡ pos 1)
unfolding whole_ratio
whole_terms f n small e = (ap (λ (g : Ratio). g.num) e, ap (λ (g : Ratio). g.den) e)

-- what is spelled as a number over 1 is spelled as the number
number_spelling : (f : Ratio) (n : ℕ) → f.num ≡ pos n → f.den ≡ pos 1 → spelling f ≡ decimal n
number_spelling f n num den = (λ i. signed_decimal (num i) ++ denominator_text (unsigned_abs (den i))) ∙ append-nil (decimal n)

some_same : {X : Type 0} (x y : X) → Some x ≡ Some y → x ≡ y
some_same x y e = cc

-- the text of a fraction is that of a number where the fraction is one
pub number_read : (text : List ℕ) (value : Ratio) (r : Option ℕ) → ((f : Ratio) → (Some value ≡ Some f) ↔ (text ≡ spelling f)) → IsWhole value r → IsNumber text r
number_read text value (Some n) reads is = (is.0, (reads value).0 refl ∙ number_spelling value n is.1 is.2)
number_read text value None reads is = λ n small e.
    let same = whole_terms value n small (some_same value (whole_ratio n small) ((reads (whole_ratio n small)).1 (e ∙ sym (whole_spelling n small)))) in
    is n small same.0 same.1

none_some : {X : Type 0} (x : X) → ◌≡◌ {A = Option X} None (Some x) → ⊥
none_some x e = cc

-- and a text of no fraction is that of no number
pub no_number_read : (text : List ℕ) → ((f : Ratio) → (◌≡◌ {A = Option Ratio} None (Some f)) ↔ (text ≡ spelling f)) → IsNumber text None
no_number_read text reads n small e = none_some (whole_ratio n small) ((reads (whole_ratio n small)).1 (e ∙ sym (whole_spelling n small)))

-- ---- which fractions are numbers

den_one : (f : Ratio) → unsigned_abs f.den ≡ 1 → f.den ≡ pos 1
den_one f e = omega (arith, ints, e, f.lowest.positive)

size_of : (z : ℤ) → int_lt z (pos 0) ≡ false → z ≡ pos (unsigned_abs z)
size_of (pos n) e = refl
size_of (negsuc n) e = absurd cc

pub other_den : (f : Ratio) → unsigned_abs f.den ≢ 1 → IsWhole f None
other_den f other n small num den = other (ap unsigned_abs den)

pub below_zero : (f : Ratio) → int_lt f.num (pos 0) ≡ true → IsWhole f None
below_zero f e n small num den = not_below n (sym (ap (λ z. int_lt z (pos 0)) num) ∙ e)
  where
    not_below : (n : ℕ) → int_lt (pos n) (pos 0) ≡ true → ⊥
    not_below n e = absurd (grind (arith, ints))

pub not_below_zero : (f : Ratio) (r : Option ℕ) → unsigned_abs f.den ≡ 1 → int_lt f.num (pos 0) ≡ false → SomeIff r (unsigned_abs f.num < 2 ^ 32) (unsigned_abs f.num) → IsWhole f r
not_below_zero f (Some n) den sign is = (subst (λ k. k < 2 ^ 32) (sym is.1) is.0, size_of f.num sign ∙ ap pos (sym is.1), den_one f den)
not_below_zero f None den sign is = λ n small num one. is (subst (λ k. k < 2 ^ 32) (sym (ap unsigned_abs num)) small)
