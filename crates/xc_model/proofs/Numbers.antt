-- Being the same number is an equivalence that the arithmetic and the order respect.
use Rattle.std.proofs.Common.{◌≡◌, ◌≢◌, arith, ℤ, pos, refl, sym, ◌∙◌, ap}
use Rattle.std.specs.Prelude.{◌+ℤ◌, ◌*ℤ◌, ◌<ℤ◌, neg_ℤ}
use Rattle.std.proofs.lemmas.Int.{ints}
use Rattle.xc_model.specs.Fraction.{Fraction, SameNumber, IsBelow, sum_of, neg_of, product_of, IsQuotient}
use Rattle.xc_model.proofs.Integers.{ring, cancel, cancel_lt, scale_lt, mul_some, mul_positive}

-- a denominator, as a whole number
pub den_positive : (x : Fraction) → pos 0 <ℤ pos x.den
den_positive x = omega (arith, ints, x.positive)

pub den_some : (x : Fraction) → pos x.den ≢ pos 0
den_some x e = omega (arith, ints, x.positive, e)

pub same-refl : (x : Fraction) → SameNumber x x
same-refl x = record { cross = refl }

pub same-sym : (x y : Fraction) → SameNumber x y → SameNumber y x
same-sym x y h = record { cross = sym h.cross }

through : (a b c d e f : ℤ) → a *ℤ d ≡ c *ℤ b → c *ℤ f ≡ e *ℤ d → d *ℤ (a *ℤ f) ≡ d *ℤ (e *ℤ b)
through a b c d e f h i =
    let left : d *ℤ (a *ℤ f) ≡ (a *ℤ d) *ℤ f = simp ring in
    let middle : (c *ℤ b) *ℤ f ≡ (c *ℤ f) *ℤ b = simp ring in
    let right : (e *ℤ d) *ℤ b ≡ d *ℤ (e *ℤ b) = simp ring in
    left ∙ ap (λ z. z *ℤ f) h ∙ middle ∙ ap (λ z. z *ℤ b) i ∙ right

pub same-trans : (x y z : Fraction) → SameNumber x y → SameNumber y z → SameNumber x z
same-trans x y z h i = record {
  cross = cancel (pos y.den) _ _ (den_some y) (through x.num (pos x.den) y.num (pos y.den) z.num (pos z.den) h.cross i.cross);
}

sum_cross : (a b c d a' b' c' d' : ℤ) → a *ℤ b' ≡ a' *ℤ b → c *ℤ d' ≡ c' *ℤ d
    → (a *ℤ d +ℤ c *ℤ b) *ℤ (b' *ℤ d') ≡ (a' *ℤ d' +ℤ c' *ℤ b') *ℤ (b *ℤ d)
sum_cross a b c d a' b' c' d' h i =
    let left : (a *ℤ d +ℤ c *ℤ b) *ℤ (b' *ℤ d') ≡ (a *ℤ b') *ℤ (d *ℤ d') +ℤ (c *ℤ d') *ℤ (b *ℤ b') = simp ring (omega (arith, ints)) in
    let right : (a' *ℤ b) *ℤ (d *ℤ d') +ℤ (c' *ℤ d) *ℤ (b *ℤ b') ≡ (a' *ℤ d' +ℤ c' *ℤ b') *ℤ (b *ℤ d) = simp ring (omega (arith, ints)) in
    left ∙ ap (λ z. z *ℤ (d *ℤ d') +ℤ (c *ℤ d') *ℤ (b *ℤ b')) h ∙ ap (λ z. (a' *ℤ b) *ℤ (d *ℤ d') +ℤ z *ℤ (b *ℤ b')) i ∙ right

pub same-sum : (x y x' y' : Fraction) → SameNumber x x' → SameNumber y y' → SameNumber (sum_of x y) (sum_of x' y')
same-sum x y x' y' h i = record { cross = sum_cross x.num (pos x.den) y.num (pos y.den) x'.num (pos x'.den) y'.num (pos y'.den) h.cross i.cross }

product_cross : (a b c d a' b' c' d' : ℤ) → a *ℤ b' ≡ a' *ℤ b → c *ℤ d' ≡ c' *ℤ d → (a *ℤ c) *ℤ (b' *ℤ d') ≡ (a' *ℤ c') *ℤ (b *ℤ d)
product_cross a b c d a' b' c' d' h i =
    let left : (a *ℤ c) *ℤ (b' *ℤ d') ≡ (a *ℤ b') *ℤ (c *ℤ d') = simp ring in
    let right : (a' *ℤ b) *ℤ (c' *ℤ d) ≡ (a' *ℤ c') *ℤ (b *ℤ d) = simp ring in
    left ∙ ap (λ z. z *ℤ (c *ℤ d')) h ∙ ap (λ z. (a' *ℤ b) *ℤ z) i ∙ right

pub same-product : (x y x' y' : Fraction) → SameNumber x x' → SameNumber y y' → SameNumber (product_of x y) (product_of x' y')
same-product x y x' y' h i = record { cross = product_cross x.num (pos x.den) y.num (pos y.den) x'.num (pos x'.den) y'.num (pos y'.den) h.cross i.cross }

pub same-neg : (x y : Fraction) → SameNumber x y → SameNumber (neg_of x) (neg_of y)
same-neg x y h = record {
  cross =
      let left : neg_ℤ x.num *ℤ pos y.den ≡ neg_ℤ (x.num *ℤ pos y.den) = simp ring in
      let right : neg_ℤ (y.num *ℤ pos x.den) ≡ neg_ℤ y.num *ℤ pos x.den = simp ring in
      left ∙ ap neg_ℤ h.cross ∙ right;
}

below_cross : (a b c d e f : ℤ) → pos 0 <ℤ d → pos 0 <ℤ f → pos 0 <ℤ b → (a *ℤ d) <ℤ (c *ℤ b) → (c *ℤ f) <ℤ (e *ℤ d) → (d *ℤ (a *ℤ f)) <ℤ (d *ℤ (e *ℤ b))
below_cross a b c d e f d_pos f_pos b_pos h i =
    let left : f *ℤ (a *ℤ d) ≡ d *ℤ (a *ℤ f) = simp ring in
    let middle : f *ℤ (c *ℤ b) ≡ b *ℤ (c *ℤ f) = simp ring in
    let right : b *ℤ (e *ℤ d) ≡ d *ℤ (e *ℤ b) = simp ring in
    omega (arith, ints, left, middle, right, scale_lt f (a *ℤ d) (c *ℤ b) f_pos h, scale_lt b (c *ℤ f) (e *ℤ d) b_pos i)

pub below-trans : (x y z : Fraction) → IsBelow x y → IsBelow y z → IsBelow x z
below-trans x y z h i = record {
  cross = cancel_lt (pos y.den) _ _ (den_positive y)
      (below_cross x.num (pos x.den) y.num (pos y.den) z.num (pos z.den) (den_positive y) (den_positive z) (den_positive x) h.cross i.cross);
}

below_same_cross : (a b c d a' b' c' d' : ℤ) → pos 0 <ℤ (b' *ℤ d') → a *ℤ b' ≡ a' *ℤ b → c *ℤ d' ≡ c' *ℤ d → (a *ℤ d) <ℤ (c *ℤ b) → ((b *ℤ d) *ℤ (a' *ℤ d')) <ℤ ((b *ℤ d) *ℤ (c' *ℤ b'))
below_same_cross a b c d a' b' c' d' p h i below =
    let left : (b' *ℤ d') *ℤ (a *ℤ d) ≡ (d *ℤ d') *ℤ (a *ℤ b') = simp ring in
    let left' : (d *ℤ d') *ℤ (a' *ℤ b) ≡ (b *ℤ d) *ℤ (a' *ℤ d') = simp ring in
    let right : (b' *ℤ d') *ℤ (c *ℤ b) ≡ (b *ℤ b') *ℤ (c *ℤ d') = simp ring in
    let right' : (b *ℤ b') *ℤ (c' *ℤ d) ≡ (b *ℤ d) *ℤ (c' *ℤ b') = simp ring in
    let low = left ∙ ap (λ z. (d *ℤ d') *ℤ z) h ∙ left' in
    let high = right ∙ ap (λ z. (b *ℤ b') *ℤ z) i ∙ right' in
    omega (arith, ints, low, high, scale_lt (b' *ℤ d') (a *ℤ d) (c *ℤ b) p below)

pub below-same : (x y x' y' : Fraction) → SameNumber x x' → SameNumber y y' → IsBelow x y → IsBelow x' y'
below-same x y x' y' h i below = record {
  cross = cancel_lt (pos x.den *ℤ pos y.den) _ _ (mul_positive (pos x.den) (pos y.den) (den_positive x) (den_positive y))
      (below_same_cross x.num (pos x.den) y.num (pos y.den) x'.num (pos x'.den) y'.num (pos y'.den)
      (mul_positive (pos x'.den) (pos y'.den) (den_positive x') (den_positive y')) h.cross i.cross below.cross);
}

quotient_cross : (a b c d x y q r q' r' : ℤ) → (q *ℤ c) *ℤ b ≡ a *ℤ (r *ℤ d) → (q' *ℤ c) *ℤ b ≡ a *ℤ (r' *ℤ d) → (c *ℤ b) *ℤ (q *ℤ r') ≡ (c *ℤ b) *ℤ (q' *ℤ r)
quotient_cross a b c d x y q r q' r' h i =
    let left : (c *ℤ b) *ℤ (q *ℤ r') ≡ ((q *ℤ c) *ℤ b) *ℤ r' = simp ring in
    let middle : (a *ℤ (r *ℤ d)) *ℤ r' ≡ (a *ℤ (r' *ℤ d)) *ℤ r = simp ring in
    let right : ((q' *ℤ c) *ℤ b) *ℤ r ≡ (c *ℤ b) *ℤ (q' *ℤ r) = simp ring in
    left ∙ ap (λ z. z *ℤ r') h ∙ middle ∙ ap (λ z. z *ℤ r) (sym i) ∙ right

-- a quotient is one number
pub quotient_unique : (q q' x y : Fraction) → IsQuotient q x y → IsQuotient q' x y → SameNumber q q'
quotient_unique q q' x y h i = record {
  cross = cancel (y.num *ℤ pos x.den) _ _ (mul_some y.num (pos x.den) h.some (den_some x))
      (quotient_cross x.num (pos x.den) y.num (pos y.den) x.num y.num q.num (pos q.den) q'.num (pos q'.den) h.back.cross i.back.cross);
}
