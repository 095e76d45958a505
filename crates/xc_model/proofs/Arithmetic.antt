-- The laws of a field, and how sums, negatives and products keep an order.
use Rattle.std.proofs.Common.{◌≡◌, ◌≢◌, ℕ, zero, suc, ◌*◌, ◌<◌, arith, ℤ, pos, negsuc, refl, ◌∙◌, ap}
use Rattle.std.proofs.Math.Nat.{mul-pos}
use Rattle.std.specs.Prelude.{◌+ℤ◌, ◌*ℤ◌, ◌<ℤ◌, neg_ℤ}
use Rattle.std.proofs.lemmas.Int.{ints}
use Rattle.std.specs.declared.cmp.Ordering.{Ordering}
use Rattle.std.specs.declared.cmp.Ordering.TheVariants.{Less, Equal, Greater}
use Rattle.xc_model.specs.Fraction.{Fraction, SameNumber, IsBelow, IsQuotient, whole, neg_of, sum_of, product_of}
use Rattle.xc_model.specs.Order.{Orders, OrdersInt}
use Rattle.xc_model.proofs.Integers.{ring, mul_comm, neg-mul, scale_lt, turn_lt, mul_positive}
use Rattle.xc_model.proofs.Numbers.{den_positive}

-- Sums

sum_assoc_cross : (a b c d e f : ℤ) → ((a *ℤ d +ℤ c *ℤ b) *ℤ f +ℤ e *ℤ (b *ℤ d)) *ℤ (b *ℤ (d *ℤ f)) ≡ (a *ℤ (d *ℤ f) +ℤ (c *ℤ f +ℤ e *ℤ d) *ℤ b) *ℤ ((b *ℤ d) *ℤ f)
sum_assoc_cross a b c d e f = simp ring (omega (arith, ints))

pub sum-assoc : (x y z : Fraction) → SameNumber (sum_of (sum_of x y) z) (sum_of x (sum_of y z))
sum-assoc x y z = record { cross = sum_assoc_cross x.num (pos x.den) y.num (pos y.den) z.num (pos z.den) }

sum_comm_cross : (a b c d : ℤ) → (a *ℤ d +ℤ c *ℤ b) *ℤ (d *ℤ b) ≡ (c *ℤ b +ℤ a *ℤ d) *ℤ (b *ℤ d)
sum_comm_cross a b c d = simp ring (omega (arith, ints))

pub sum-comm : (x y : Fraction) → SameNumber (sum_of x y) (sum_of y x)
sum-comm x y = record { cross = sum_comm_cross x.num (pos x.den) y.num (pos y.den) }

sum_zero_cross : (a b : ℤ) → (a *ℤ pos 1 +ℤ pos 0 *ℤ b) *ℤ b ≡ a *ℤ (b *ℤ pos 1)
sum_zero_cross a b =
    let left : a *ℤ pos 1 +ℤ pos 0 *ℤ b ≡ a = omega (arith, ints) in
    let right : b ≡ b *ℤ pos 1 = omega (arith, ints) in
    ap (λ z. z *ℤ b) left ∙ ap (λ z. a *ℤ z) right

pub sum-zero : (x : Fraction) → SameNumber (sum_of x (whole (pos 0))) x
sum-zero x = record { cross = sum_zero_cross x.num (pos x.den) }

sum_neg_cross : (a b : ℤ) → (a *ℤ b +ℤ neg_ℤ a *ℤ b) *ℤ pos 1 ≡ pos 0 *ℤ (b *ℤ b)
sum_neg_cross a b =
    let left : a *ℤ b +ℤ neg_ℤ a *ℤ b ≡ pos 0 = omega (arith, ints, neg-mul a b) in
    let right : pos 0 *ℤ pos 1 ≡ pos 0 *ℤ (b *ℤ b) = omega (arith, ints) in
    ap (λ z. z *ℤ pos 1) left ∙ right

pub sum-neg : (x : Fraction) → SameNumber (sum_of x (neg_of x)) (whole (pos 0))
sum-neg x = record { cross = sum_neg_cross x.num (pos x.den) }

-- Products

product_assoc_cross : (a b c d e f : ℤ) → ((a *ℤ c) *ℤ e) *ℤ (b *ℤ (d *ℤ f)) ≡ (a *ℤ (c *ℤ e)) *ℤ ((b *ℤ d) *ℤ f)
product_assoc_cross a b c d e f = simp ring

pub product-assoc : (x y z : Fraction) → SameNumber (product_of (product_of x y) z) (product_of x (product_of y z))
product-assoc x y z = record { cross = product_assoc_cross x.num (pos x.den) y.num (pos y.den) z.num (pos z.den) }

product_comm_cross : (a b c d : ℤ) → (a *ℤ c) *ℤ (d *ℤ b) ≡ (c *ℤ a) *ℤ (b *ℤ d)
product_comm_cross a b c d = simp ring

pub product-comm : (x y : Fraction) → SameNumber (product_of x y) (product_of y x)
product-comm x y = record { cross = product_comm_cross x.num (pos x.den) y.num (pos y.den) }

product_one_cross : (a b : ℤ) → (a *ℤ pos 1) *ℤ b ≡ a *ℤ (b *ℤ pos 1)
product_one_cross a b = simp ring

pub product-one : (x : Fraction) → SameNumber (product_of x (whole (pos 1))) x
product-one x = record { cross = product_one_cross x.num (pos x.den) }

product_sum_cross : (a b c d e f : ℤ) → (a *ℤ (c *ℤ f +ℤ e *ℤ d)) *ℤ ((b *ℤ d) *ℤ (b *ℤ f)) ≡ ((a *ℤ c) *ℤ (b *ℤ f) +ℤ (a *ℤ e) *ℤ (b *ℤ d)) *ℤ (b *ℤ (d *ℤ f))
product_sum_cross a b c d e f = simp ring (omega (arith, ints))

pub product-sum : (x y z : Fraction) → SameNumber (product_of x (sum_of y z)) (sum_of (product_of x y) (product_of x z))
product-sum x y z = record { cross = product_sum_cross x.num (pos x.den) y.num (pos y.den) z.num (pos z.den) }

sum_product_cross : (a b c d e f : ℤ) → ((a *ℤ d +ℤ c *ℤ b) *ℤ e) *ℤ ((b *ℤ f) *ℤ (d *ℤ f)) ≡ ((a *ℤ e) *ℤ (d *ℤ f) +ℤ (c *ℤ e) *ℤ (b *ℤ f)) *ℤ ((b *ℤ d) *ℤ f)
sum_product_cross a b c d e f = simp ring (omega (arith, ints))

pub sum-product : (x y z : Fraction) → SameNumber (product_of (sum_of x y) z) (sum_of (product_of x z) (product_of y z))
sum-product x y z = record { cross = sum_product_cross x.num (pos x.den) y.num (pos y.den) z.num (pos z.den) }

-- q / r is (a / b) / (c / d)
record IsRatio (a b c d q : ℤ) (r : ℕ) : Type 0 where
  pub positive : 0 < r
  pub cross : (q *ℤ c) *ℤ b ≡ a *ℤ (pos r *ℤ d)

ratio_by : (a : ℤ) (b : ℕ) (c d : ℤ) → 0 < b → c ≢ pos 0 → (q : ℤ) × ((r : ℕ) × IsRatio a (pos b) c d q r)
ratio_by a b (pos zero) d p some = absurd (some refl)
ratio_by a b (pos (suc n)) d p some = (a *ℤ d, (b * suc n, record { positive = mul-pos p (omega arith); cross = e (pos b) (pos (suc n)) }))
  where
    e : (b c : ℤ) → ((a *ℤ d) *ℤ c) *ℤ b ≡ a *ℤ ((b *ℤ c) *ℤ d)
    e b c = simp ring
ratio_by a b (negsuc n) d p some = (neg_ℤ (a *ℤ d), (b * suc n, record { positive = mul-pos p (omega arith); cross = e (pos b) (pos (suc n)) }))
  where
    e : (b c : ℤ) → (neg_ℤ (a *ℤ d) *ℤ neg_ℤ c) *ℤ b ≡ a *ℤ ((b *ℤ c) *ℤ d)
    e b c = simp ring

-- a quotient by a number other than 0 is a number
pub quotient_exists : (x y : Fraction) → y.num ≢ pos 0 → (q : Fraction) × IsQuotient q x y
quotient_exists x y some =
    let r = ratio_by x.num x.den y.num (pos y.den) x.positive some in
    (record { num = r.0; den = r.1.0; positive = r.1.1.positive }, record { some = some; back = record { cross = r.1.1.cross } })

-- Orders

sum_below_cross : (a b c d e f : ℤ) → pos 0 <ℤ f → (a *ℤ d) <ℤ (c *ℤ b) → ((a *ℤ f +ℤ e *ℤ b) *ℤ (d *ℤ f)) <ℤ ((c *ℤ f +ℤ e *ℤ d) *ℤ (b *ℤ f))
sum_below_cross a b c d e f p h =
    let left : (a *ℤ f +ℤ e *ℤ b) *ℤ (d *ℤ f) ≡ (f *ℤ f) *ℤ (a *ℤ d) +ℤ (e *ℤ f) *ℤ (b *ℤ d) = simp ring (omega (arith, ints)) in
    let right : (c *ℤ f +ℤ e *ℤ d) *ℤ (b *ℤ f) ≡ (f *ℤ f) *ℤ (c *ℤ b) +ℤ (e *ℤ f) *ℤ (b *ℤ d) = simp ring (omega (arith, ints)) in
    omega (arith, ints, left, right, scale_lt (f *ℤ f) (a *ℤ d) (c *ℤ b) (mul_positive f f p p) h)

-- a number added to both keeps the order
pub below-sum : (z x y : Fraction) → IsBelow x y → IsBelow (sum_of x z) (sum_of y z)
below-sum z x y h = record { cross = sum_below_cross x.num (pos x.den) y.num (pos y.den) z.num (pos z.den) (den_positive z) h.cross }

-- negatives turn it round
pub below-neg : (x y : Fraction) → IsBelow x y → IsBelow (neg_of y) (neg_of x)
below-neg x y h = record {
  cross = omega (arith, ints, h.cross, neg-mul x.num (pos y.den), neg-mul y.num (pos x.den));
}

factor_out : (a d e f : ℤ) → (e *ℤ f) *ℤ (a *ℤ d) ≡ (a *ℤ e) *ℤ (d *ℤ f)
factor_out a d e f = simp ring

-- a positive factor keeps the order
pub below-product : (z x y : Fraction) → IsBelow (whole (pos 0)) z → IsBelow x y → IsBelow (product_of x z) (product_of y z)
below-product z x y above h = record {
  cross =
      let factor : pos 0 <ℤ (z.num *ℤ pos z.den) = mul_positive z.num (pos z.den) (omega (arith, ints, above.cross)) (den_positive z) in
      omega (
        arith,
        ints,
        factor_out x.num (pos y.den) z.num (pos z.den),
        factor_out y.num (pos x.den) z.num (pos z.den),
        scale_lt (z.num *ℤ pos z.den) (x.num *ℤ pos y.den) (y.num *ℤ pos x.den) factor h.cross,
      );
}

-- a negative one turns it round
pub below-product_neg : (z x y : Fraction) → IsBelow z (whole (pos 0)) → IsBelow x y → IsBelow (product_of y z) (product_of x z)
below-product_neg z x y below h = record {
  cross =
      let num : z.num <ℤ pos 0 = omega (arith, ints, below.cross) in
      let factor : (z.num *ℤ pos z.den) <ℤ pos 0 = omega (arith, ints, mul_comm z.num (pos z.den), scale_lt (pos z.den) z.num (pos 0) (den_positive z) num) in
      omega (
        arith,
        ints,
        factor_out x.num (pos y.den) z.num (pos z.den),
        factor_out y.num (pos x.den) z.num (pos z.den),
        turn_lt (z.num *ℤ pos z.den) (x.num *ℤ pos y.den) (y.num *ℤ pos x.den) factor h.cross,
      );
}

-- a number compares with 0 as its numerator does
pub sign_of_num : (o : Ordering) (x : Fraction) → Orders o x (whole (pos 0)) → OrdersInt o x.num (pos 0)
sign_of_num Less x h = omega (arith, ints, h.cross)
sign_of_num Equal x h = omega (arith, ints, h.cross)
sign_of_num Greater x h = omega (arith, ints, h.cross)
