-- Sums over the least common denominator.
use Rattle.std.proofs.Common.{◌/◌, ◌≡◌, ◌≢◌, ℕ, ◌*◌, ◌<◌, arith, ℤ, pos, sym, ◌∙◌, ap, subst, inl, inr}
use Rattle.std.specs.Prelude.{◌+ℤ◌, ◌*ℤ◌}
use Rattle.std.proofs.lemmas.Int.{ints}
use Rattle.std.proofs.lemmas.Nat.Gcd.{dvd_antisymm}
use Prim.Native.Nat.{◌∣◌}
use native.Mathlib.Nat.{dvd-mul_right, dvd-mul_left, dvd_of_mul-dvd-mul_right, mul-div_cancel', mul-dvd-mul_left}
use Rattle.xc_model.specs.Divisors.{IsCoprime, IsLeastCommon}
use Rattle.xc_model.specs.Fraction.{Fraction, SameNumber, sum_of}
use Rattle.xc_model.specs.Width.{IsNarrow, Meets, SumPasses}
use Rattle.xc_model.proofs.Gauss.{gauss, IsCoprime-swap}
use Rattle.xc_model.proofs.Integers.{ring, cancel, mul_comm}
use Rattle.xc_model.proofs.Lowest.{SameTerms, narrow_or_wide}
use Rattle.xc_model.proofs.Numbers.{den_some}

-- n g and m g, where n and m have no common factor, have the least common multiple n g m
pub least_common : (b d g n m : ℕ) → 0 < g → n * g ≡ b → m * g ≡ d → IsCoprime n m → IsLeastCommon b d (b * m)
least_common b d g n m some e f co = record {
  left = dvd-mul_right b m;
  right = subst (λ z. d ∣ z) (let s : n * d ≡ b * m = ap (λ z. n * z) (sym f) ∙ sym (ap (λ z. z * m) (sym e) ∙ omega arith) in s) (dvd-mul_left d n);
  least = λ k left right.
      let u : ℕ = k / b in
      let k_is : b * u ≡ k = mul-div_cancel' b left in
      let k_also : (n * u) * g ≡ k = omega arith ∙ ap (λ z. z * u) e ∙ k_is in
      let m_divides : m ∣ n * u = dvd_of_mul-dvd-mul_right m some (subst (λ z. m * g ∣ z) (sym k_also) (subst (λ z. z ∣ k) (sym f) right)) in
      subst (λ z. b * m ∣ z) k_is (mul-dvd-mul_left m b (gauss m n u (IsCoprime-swap n m co) m_divides));
}

pub least_common_unique : (b d l m : ℕ) → IsLeastCommon b d l → IsLeastCommon b d m → l ≡ m
least_common_unique b d l m x y = dvd_antisymm (x.least m y.left y.right) (y.least l x.left x.right)

sum_cross : (a b c d l p q : ℤ) → p *ℤ b ≡ a *ℤ l → q *ℤ d ≡ c *ℤ l → (p +ℤ q) *ℤ (b *ℤ d) ≡ (a *ℤ d +ℤ c *ℤ b) *ℤ l
sum_cross a b c d l p q h i =
    let left : (p +ℤ q) *ℤ (b *ℤ d) ≡ (p *ℤ b) *ℤ d +ℤ (q *ℤ d) *ℤ b = simp ring (omega (arith, ints)) in
    let right : (a *ℤ l) *ℤ d +ℤ (c *ℤ l) *ℤ b ≡ (a *ℤ d +ℤ c *ℤ b) *ℤ l = simp ring (omega (arith, ints)) in
    left ∙ ap (λ z. z *ℤ d +ℤ (q *ℤ d) *ℤ b) h ∙ ap (λ z. (a *ℤ l) *ℤ d +ℤ z *ℤ b) i ∙ right

-- the sum of the numerators over the least common denominator is the sum
pub sum_meets : (x y : Fraction) (l : ℕ) (p q : ℤ) (positive : 0 < l) → Meets x y l p q → SameNumber (record { num = p +ℤ q; den = l; positive = positive }) (sum_of x y)
sum_meets x y l p q positive m = record { cross = sum_cross x.num (pos x.den) y.num (pos y.den) (pos l) p q m.left m.right }

numerator_unique : (b a l m p q : ℤ) → b ≢ pos 0 → l ≡ m → p *ℤ b ≡ a *ℤ l → q *ℤ b ≡ a *ℤ m → p ≡ q
numerator_unique b a l m p q some same e f = cancel b p q some (mul_comm b p ∙ e ∙ ap (λ z. a *ℤ z) same ∙ sym f ∙ mul_comm q b)

-- where all fits over the least common denominator, the sum does not pass
pub sum_fits : (x y : Fraction) (l : ℕ) (p q : ℤ) → Meets x y l p q → IsNarrow (pos l) → IsNarrow p → IsNarrow q → IsNarrow (p +ℤ q) → SumPasses x y → ⊥
sum_fits x y l p q m den_narrow left_narrow right_narrow sum_narrow w =
    let den : pos l ≡ pos w.den = ap (λ (z : ℕ). pos z) (least_common_unique _ _ _ _ m.common w.meets.common) in
    let left : p ≡ w.left = numerator_unique (pos x.den) x.num (pos l) (pos w.den) p w.left (den_some x) den m.left w.meets.left in
    let right : q ≡ w.right = numerator_unique (pos y.den) y.num (pos l) (pos w.den) q w.right (den_some y) den m.right w.meets.right in
    let sum : p +ℤ q ≡ w.left +ℤ w.right = ap (λ z. z +ℤ q) left ∙ ap (λ z. w.left +ℤ z) right in
    elim w.wide [
      | inl wide ↦ narrow_or_wide (pos l) (pos w.den) den den_narrow wide
      | inr rest ↦ elim rest [
        | inl wide ↦ narrow_or_wide p w.left left left_narrow wide
        | inr rest ↦ elim rest [
          | inl wide ↦ narrow_or_wide q w.right right right_narrow wide
          | inr wide ↦ narrow_or_wide (p +ℤ q) (w.left +ℤ w.right) sum sum_narrow wide
        ]
      ]
    ]

-- whether a sum passes is a matter of the terms
pub sum_passes_terms : (x y y' : Fraction) → SameTerms y y' → SumPasses x y → SumPasses x y'
sum_passes_terms x y y' same w = record {
  den = w.den;
  left = w.left;
  right = w.right;
  meets = record {
    common = subst (λ z. IsLeastCommon x.den z w.den) same.den w.meets.common;
    left = w.meets.left;
    right = ap (λ (z : ℕ). w.right *ℤ pos z) (sym same.den) ∙ w.meets.right ∙ ap (λ z. z *ℤ pos w.den) same.num;
  };
  wide = w.wide;
}
