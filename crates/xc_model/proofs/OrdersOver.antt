-- Numbers over one denominator are ordered as their numerators.
use Rattle.std.proofs.Common.{◌≡◌, ℕ, ℤ, pos, ◌*ℤ◌, ◌≤ℤ◌, ◌<ℤ◌, ◌⊎◌, inl, inr, sym, ap, subst, ◌∙◌, arith}
use Rattle.std.proofs.lemmas.Int.{ints, by_lt_z}
use Rattle.xc_model.specs.Fraction.{Fraction, SameNumber, IsBelow, IsNumberOver}
use Rattle.xc_model.proofs.Integers.{ring, scale_lt, cancel_lt, mul_positive}
use Rattle.xc_model.proofs.Numbers.{den_positive, same-sym, same-trans}
use Rattle.xc_model.proofs.NumbersOver.{number_same}
use Rattle.xc_model.proofs.Over.{ratio}

pub below_over : (x y : Fraction) (n m : ℤ) (d : ℕ) → IsNumberOver x n d → IsNumberOver y m d → n <ℤ m → IsBelow x y
below_over x y n m d h k l = record {
  cross = cancel_lt (pos d) _ _ (omega (arith, ints, h.positive)) (ordered x.num (pos x.den) y.num (pos y.den) n m (pos d) (mul_positive (pos x.den) (pos y.den) (den_positive x) (den_positive y)) h.cross k.cross l);
}
  where
    ordered : (a b c e n m d : ℤ) → pos 0 <ℤ (b *ℤ e) → a *ℤ d ≡ n *ℤ b → c *ℤ d ≡ m *ℤ e → n <ℤ m → (d *ℤ (a *ℤ e)) <ℤ (d *ℤ (c *ℤ b))
    ordered a b c e n m d p h k l =
        let left : d *ℤ (a *ℤ e) ≡ (a *ℤ d) *ℤ e = simp ring in
        let left' : (n *ℤ b) *ℤ e ≡ (b *ℤ e) *ℤ n = simp ring in
        let right : d *ℤ (c *ℤ b) ≡ (c *ℤ d) *ℤ b = simp ring in
        let right' : (m *ℤ e) *ℤ b ≡ (b *ℤ e) *ℤ m = simp ring in
        let one = left ∙ ap (λ z. z *ℤ e) h ∙ left' in
        let other = right ∙ ap (λ z. z *ℤ b) k ∙ right' in
        omega (arith, ints, one, other, scale_lt (b *ℤ e) n m p l)

pub numbers_same : (x y : Fraction) (n m : ℤ) (d : ℕ) → IsNumberOver x n d → IsNumberOver y m d → n ≡ m → SameNumber x y
numbers_same x y n m d h k e =
    let right : IsNumberOver y n d = subst (λ z. IsNumberOver y z d) (sym e) k in
    same-trans x (ratio n d h.positive) y (number_same x n d h) (same-sym y (ratio n d h.positive) (record { cross = right.cross }))

pub at_most_over : (x y : Fraction) (n m : ℤ) (d : ℕ) → IsNumberOver x n d → IsNumberOver y m d → n ≤ℤ m → IsBelow x y ⊎ SameNumber x y
at_most_over x y n m d h k l = by_lt_z n m (λ less. inl (below_over x y n m d h k less)) (λ other. inr (numbers_same x y n m d h k (omega (arith, ints, l, other))))
