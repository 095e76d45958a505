-- Numbers as whole numbers over a denominator: their sums, negatives, products and quotients, and that nothing passes where these fit.
use Rattle.std.proofs.Common.{◌/◌, ◌≡◌, ◌≢◌, ℕ, ◌*◌, ◌<◌, ◌^◌, arith, ℤ, pos, sym, ◌∙◌, ap, subst, inl, inr}
use Rattle.std.specs.Prelude.{◌+ℤ◌, ◌*ℤ◌, ◌<ℤ◌, neg_ℤ, unsigned_abs}
use Rattle.std.proofs.lemmas.Int.{ints}
use Prim.Native.Nat.{◌∣◌}
use native.Mathlib.Nat.{mul-div_cancel'}
use Rattle.xc_model.specs.Divisors.{IsCoprime}
use Rattle.xc_model.specs.Fraction.{Fraction, whole, SameNumber, IsBelow, IsNumberOver, IsProductOver, IsQuotientOver, neg_of, sum_of, product_of, IsQuotient}
use Rattle.xc_model.specs.Ratio.{Ratio, fraction_of, IsOver}
use Rattle.xc_model.specs.Width.{IsNarrow, IsWideLowest, SumPasses, DifferencePasses, ProductPasses, QuotientPasses, SumFits}
use Rattle.xc_model.proofs.Integers.{ring, cancel, mul_comm, unsigned_abs-neg, factor_below}
use Rattle.xc_model.proofs.Lowest.{lowest_den_divides}
use Rattle.xc_model.proofs.Numbers.{den_some, same-refl, same-sym, same-trans, same-sum, same-neg, same-product, below-same, quotient_unique}
use Rattle.xc_model.proofs.Over.{ratio, over_same, same_over, add_over, room, same_factor, below_factor}

-- x is the fraction n / d, and the other way
pub number_same : (x : Fraction) (n : ℤ) (d : ℕ) (h : IsNumberOver x n d) → SameNumber x (ratio n d h.positive)
number_same x n d h = record { cross = h.cross }

pub same_number : (x : Fraction) (n : ℤ) (d : ℕ) (p : 0 < d) → SameNumber x (ratio n d p) → IsNumberOver x n d
same_number x n d p h = record { positive = p; cross = h.cross }

-- so is whatever is the same
pub number_over-same : (x y : Fraction) (n : ℤ) (d : ℕ) → SameNumber y x → IsNumberOver x n d → IsNumberOver y n d
number_over-same x y n d same h = same_number y n d h.positive (same-trans y x (ratio n d h.positive) same (number_same x n d h))

-- a number over d, as a fraction in lowest terms
pub over_number : (f : Ratio) (n : ℤ) (d : ℕ) → IsOver f n d → IsNumberOver (fraction_of f) n d
over_number f n d h = same_number (fraction_of f) n d h.positive (over_same f n d h.positive h)

pub number_over : (f : Ratio) (n : ℤ) (d : ℕ) → IsNumberOver (fraction_of f) n d → IsOver f n d
number_over f n d h = same_over f n d h.positive (number_same (fraction_of f) n d h)

-- 0 is 0 / d
pub zero_over : (x : Fraction) (d : ℕ) → 0 < d → SameNumber x (whole (pos 0)) → IsNumberOver x (pos 0) d
zero_over x d p h =
    let none : x.num ≡ pos 0 = omega (arith, ints, h.cross) in
    record { positive = p; cross = omega (arith, ints, ap (λ z. z *ℤ pos d) none) }

-- the negative of n / d
pub neg_number : (x : Fraction) (n : ℤ) (d : ℕ) → IsNumberOver x n d → IsNumberOver (neg_of x) (neg_ℤ n) d
neg_number x n d h = same_number (neg_of x) (neg_ℤ n) d h.positive (same-neg x (ratio n d h.positive) (number_same x n d h))

-- the sum of two numbers over d
pub sum_number : (x y : Fraction) (n m : ℤ) (d : ℕ) → IsNumberOver x n d → IsNumberOver y m d → IsNumberOver (sum_of x y) (n +ℤ m) d
sum_number x y n m d left right =
    let p = left.positive in
    same_number (sum_of x y) (n +ℤ m) d p
    (same-trans (sum_of x y) (sum_of (ratio n d p) (ratio m d p)) (ratio (n +ℤ m) d p) (same-sum x y (ratio n d p) (ratio m d p) (number_same x n d left) (record { cross = right.cross })) (add_over n m d p))

-- two numbers over d compare as the whole numbers do
pub below_number : (x y : Fraction) (n m : ℤ) (d : ℕ) → IsNumberOver x n d → IsNumberOver y m d → IsBelow x y → n <ℤ m
below_number x y n m d left right h =
    let p = left.positive in
    let below = below-same x y (ratio n d p) (ratio m d p) (number_same x n d left) (record { cross = right.cross }) h in
    below_factor d n m p below.cross

pub equal_number : (x y : Fraction) (n m : ℤ) (d : ℕ) → IsNumberOver x n d → IsNumberOver y m d → SameNumber x y → n ≡ m
equal_number x y n m d left right h =
    let p = left.positive in
    let same = same-trans (ratio n d p) x (ratio m d p) (same-sym x (ratio n d p) (number_same x n d left)) (same-trans x y (ratio m d p) h (record { cross = right.cross })) in
    same_factor d n m p same.cross

-- n / d times m / e
module _ (x y : Fraction) (n m p : ℤ) (d e c : ℕ) (left : IsNumberOver x n d) (right : IsNumberOver y m e) where
  ratios : IsProductOver n d m e p c → SameNumber (product_of x y) (product_of (ratio n d left.positive) (ratio m e right.positive))
  ratios h = same-product x y (ratio n d left.positive) (ratio m e right.positive) (number_same x n d left) (number_same y m e right)

  pub product_number : IsProductOver n d m e p c → IsNumberOver (product_of x y) p c
  product_number h =
      same_number (product_of x y) p c h.positive
      (same-trans (product_of x y) (product_of (ratio n d left.positive) (ratio m e right.positive)) (ratio p c h.positive) (ratios h) (record { cross = sym h.cross }))

  -- n / d over m / e
  pub quotient_number : IsQuotientOver n d m e p c → (q : Fraction) → IsQuotient q x y → IsNumberOver q p c
  quotient_number h q is =
      let a = ratio n d left.positive in
      let b = ratio m e right.positive in
      let r = ratio p c h.positive in
      let times : SameNumber (product_of r y) (product_of r b) = same-product r y r b (same-refl r) (number_same y m e right) in
      let back : SameNumber (product_of r b) a = record { cross = h.cross } in
      let turned : SameNumber a x = same-sym x a (number_same x n d left) in
      let made : IsQuotient r x y = record { some = is.some; back = same-trans (product_of r y) (product_of r b) x times (same-trans (product_of r b) a x back turned) } in
      same_number q p c h.positive (quotient_unique q r x y is made)

-- a number that is n / d, both narrow, is not wide in lowest terms
pub lowest_room : (x : Fraction) (n : ℤ) (d : ℕ) → IsNumberOver x n d → IsNarrow n → d < 2 ^ 127 → IsWideLowest x → ⊥
lowest_room x n d is narrow small w =
    let divides : x.den ∣ d = lowest_den_divides x (ratio n d is.positive) (number_same x n d is) w.coprime in
    let k : ℕ = d / x.den in
    let d_is : x.den * k ≡ d = mul-div_cancel' x.den divides in
    let whole : pos x.den *ℤ pos k ≡ pos d = ap (λ (z : ℕ). pos z) d_is in
    let some : pos k ≢ pos 0 = λ e. let none : k ≡ 0 = omega (arith, ints, e) in absurd (omega (arith, is.positive, d_is, ap (λ z. x.den * z) none)) in
    let turned : pos x.den *ℤ (x.num *ℤ pos k) ≡ x.num *ℤ (pos x.den *ℤ pos k) = simp ring in
    let num_is : x.num *ℤ pos k ≡ n = cancel (pos x.den) (x.num *ℤ pos k) n (den_some x) (turned ∙ ap (λ z. x.num *ℤ z) whole ∙ is.cross ∙ mul_comm n (pos x.den)) in
    elim w.wide [
      | inl wide ↦ omega (arith, factor_below x.num (pos k) n num_is some, narrow, wide)
      | inr wide ↦ omega (arith, factor_below (pos x.den) (pos k) (pos d) whole some, small, wide)
    ]

module _ (x y : Fraction) (n m p : ℤ) (d e c : ℕ) (left : IsNumberOver x n d) (right : IsNumberOver y m e) where
  -- a product that is p / c, both narrow, does not pass
  pub product_room : IsProductOver n d m e p c → c < 2 ^ 127 → IsNarrow p → ProductPasses x y → ⊥
  product_room h small narrow w =
      lowest_room w.lowest p c (number_over-same (product_of x y) w.lowest p c w.same (product_number x y n m p d e c left right h)) narrow small w.wide

  -- nor does such a quotient
  pub quotient_room : IsQuotientOver n d m e p c → c < 2 ^ 127 → IsNarrow p → QuotientPasses x y → ⊥
  quotient_room h small narrow w = lowest_room w.lowest p c (quotient_number x y n m p d e c left right h w.lowest w.same) narrow small w.wide

-- a sum of numerators that fits does not pass, nor does a difference
pub sum_of_fits : (f g : Ratio) (n m : ℤ) (d : ℕ) → IsNumberOver (fraction_of f) n d → IsNumberOver (fraction_of g) m d → SumFits n m d → SumPasses (fraction_of f) (fraction_of g) → ⊥
sum_of_fits f g n m d left right fit =
    room (fraction_of f) (fraction_of g) n m d left.positive (number_same (fraction_of f) n d left) (record { cross = right.cross }) f.lowest.coprime g.lowest.coprime fit.den fit.left fit.right fit.sum

pub difference_of_fits : (f g : Ratio) (n m : ℤ) (d : ℕ) → IsNumberOver (fraction_of f) n d → IsNumberOver (fraction_of g) m d → SumFits n (neg_ℤ m) d → DifferencePasses (fraction_of f) (fraction_of g) → ⊥
difference_of_fits f g n m d left right fit =
    let turned = neg_number (fraction_of g) m d right in
    let lowest : IsCoprime (unsigned_abs (neg_ℤ g.num)) (fraction_of g).den = subst (λ z. IsCoprime z (fraction_of g).den) (sym (unsigned_abs-neg g.num)) g.lowest.coprime in
    room (fraction_of f) (neg_of (fraction_of g)) n (neg_ℤ m) d left.positive (number_same (fraction_of f) n d left) (record { cross = turned.cross }) f.lowest.coprime lowest fit.den fit.left fit.right fit.sum
