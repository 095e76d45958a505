-- Numbers with their common factor taken out: what sums and products of such numbers are.
use Rattle.std.proofs.Common.{◌≡◌, ◌≢◌, ℕ, ◌*◌, ◌<◌, ◌^◌, arith, ℤ, pos, negsuc, suc, zero, sym, ◌∙◌, ap, subst, inl, inr}
use Rattle.std.specs.Prelude.{◌+ℤ◌, ◌*ℤ◌, ◌<ℤ◌, unsigned_abs, ◌⊎◌, int_div, int_rem}
use Rattle.std.specs.Int.{IsGcd}
use Rattle.std.proofs.lemmas.Int.{ints, unsigned_abs-mul, quot-rem}
use Rattle.std.proofs.lemmas.Nat.Gcd.{mod-eq-zero_of_dvd, le_of_dvd}
use Prim.Native.Nat.{◌∣◌}
use native.Mathlib.Nat.{pos_of_dvd_of_pos, dvd-mul_right, eq-one_of_dvd-one}
use Rattle.xc_model.specs.Divisors.{IsCoprime, IsLeastCommon}
use Rattle.xc_model.specs.Fraction.{over, SameNumber, sum_of, product_of}
use Rattle.xc_model.specs.Ratio.{IsLowest}
use Rattle.xc_model.specs.Width.{IsNarrow, Meets, SumPasses, ProductPasses}
use Rattle.xc_model.proofs.Gauss.{IsCoprime-divisors, IsCoprime-products, IsCoprime-over_gcd}
use Rattle.xc_model.proofs.Integers.{ring, mul_positive, pos-unsigned_abs, unsigned_abs_some, wide_if}
use Rattle.xc_model.proofs.LeastCommon.{least_common, sum_meets, sum_fits}
use Rattle.xc_model.proofs.Numbers.{same-trans}
use Rattle.xc_frac.specs.Cleared.{IsCleared}

rem_of_divisor : (a d : ℤ) → unsigned_abs d ∣ unsigned_abs a → int_rem a d ≡ pos 0
rem_of_divisor (pos n) d h = ap pos (mod-eq-zero_of_dvd (unsigned_abs d) h)
rem_of_divisor (negsuc n) d h = rw (mod-eq-zero_of_dvd (unsigned_abs d) h)

-- a quotient by a divisor leaves nothing over
pub quotient_by_divisor : (a d : ℤ) → unsigned_abs d ∣ unsigned_abs a → int_div a d *ℤ d ≡ a
quotient_by_divisor a d h = omega (arith, ints, quot-rem a d, rem_of_divisor a d h)

-- a greatest common divisor with a number other than 0 is neither 0 nor more than that number
pub gcd_some : (a b g : ℕ) → 0 < b → IsGcd a b g → 0 < g
gcd_some a b g some h = pos_of_dvd_of_pos h.1 some

pub gcd_narrow : (a b g : ℕ) → 0 < b → b < 2 ^ 127 → IsGcd a b g → g < 2 ^ 127
gcd_narrow a b g some narrow h = omega (arith, le_of_dvd some h.1)

-- a quotient by a divisor of the sign of its number is positive
quotient_positive : (q s d : ℤ) → q *ℤ s ≡ d → (pos 0 <ℤ d → pos 0 <ℤ s) → (d <ℤ pos 0 → s <ℤ pos 0) → d ≢ pos 0 → pos 0 <ℤ q
quotient_positive (pos zero) s d e up down n = absurd (n (omega (arith, ints)))
quotient_positive (pos (suc k)) s d e up down n = omega (arith, ints)
quotient_positive (negsuc k) (pos zero) d e up down n = absurd (n (omega (arith, ints)))
quotient_positive (negsuc k) (pos (suc m)) d e up down n = absurd (omega (arith, ints, down (omega (arith, ints))))
quotient_positive (negsuc k) (negsuc m) d e up down n = absurd (omega (arith, ints, up (omega (arith, ints))))

sizes : (p s n : ℤ) → p *ℤ s ≡ n → unsigned_abs p * unsigned_abs s ≡ unsigned_abs n
sizes p s n e = sym (unsigned_abs-mul p s) ∙ ap unsigned_abs e

divides : (p s n : ℤ) → p *ℤ s ≡ n → unsigned_abs p ∣ unsigned_abs n
divides p s n e = subst (λ z. unsigned_abs p ∣ z) (sizes p s n e) (dvd-mul_right (unsigned_abs p) (unsigned_abs s))

-- n and d over their greatest common divisor with the sign of d
pub cleared_by_gcd : (n d s p q : ℤ) → d ≢ pos 0 → IsGcd (unsigned_abs n) (unsigned_abs d) (unsigned_abs s)
    → (pos 0 <ℤ d → pos 0 <ℤ s) → (d <ℤ pos 0 → s <ℤ pos 0) → p *ℤ s ≡ n → q *ℤ s ≡ d → IsCleared n d p q
cleared_by_gcd n d s p q some gcd up down e f =
    let s_some : 0 < unsigned_abs s = gcd_some _ _ _ (unsigned_abs_some d some) gcd in
    record {
      factor = s;
      left = e;
      right = f;
      positive = quotient_positive q s d f up down some;
      coprime = IsCoprime-over_gcd _ _ _ _ _ gcd s_some (sizes p s n e) (sizes q s d f);
    }

-- equal denominators leave nothing
pub cleared_equal : (b d : ℤ) → b ≡ d → IsCleared b d (pos 1) (pos 1)
cleared_equal b d e = record {
  factor = b;
  left = omega (arith, ints);
  right = omega (arith, ints);
  positive = omega (arith, ints);
  coprime = λ k l r. eq-one_of_dvd-one l;
}

-- beside a 1 there is nothing in common
pub cleared_one : (b d : ℤ) → pos 0 <ℤ d → (b ≡ pos 1) ⊎ (d ≡ pos 1) → IsCleared b d b d
cleared_one b d p one = record {
  factor = pos 1;
  left = omega (arith, ints);
  right = omega (arith, ints);
  positive = p;
  coprime = λ k l r. elim one [
    | inl e ↦ eq-one_of_dvd-one (subst (λ z. k ∣ unsigned_abs z) e l)
    | inr e ↦ eq-one_of_dvd-one (subst (λ z. k ∣ unsigned_abs z) e r)
  ];
}

-- in 0 there is nothing but the other
pub cleared_zero : (n d : ℤ) → n ≡ pos 0 → d ≢ pos 0 → IsCleared n d (pos 0) (pos 1)
cleared_zero n d e some = record {
  factor = d;
  left = omega (arith, ints, e);
  right = omega (arith, ints);
  positive = omega (arith, ints);
  coprime = λ k l r. eq-one_of_dvd-one r;
}

-- nor in 1
pub cleared_by_one : (n d : ℤ) → d ≡ pos 1 → IsCleared n d n (pos 1)
cleared_by_one n d e = record {
  factor = pos 1;
  left = omega (arith, ints);
  right = omega (arith, ints, e);
  positive = omega (arith, ints);
  coprime = λ k l r. eq-one_of_dvd-one r;
}

-- and beside 1 or -1 there is nothing in common
pub cleared_unit : (n d u : ℤ) → n ≡ u → unsigned_abs u ≡ 1 → pos 0 <ℤ d → IsCleared n d u d
cleared_unit n d u e one p = record {
  factor = pos 1;
  left = omega (arith, ints, e);
  right = omega (arith, ints);
  positive = p;
  coprime = λ k l r. eq-one_of_dvd-one (subst (λ z. k ∣ z) one l);
}

-- the ratio stays
pub cleared_ratio : (n d p q : ℤ) → IsCleared n d p q → p *ℤ d ≡ n *ℤ q
cleared_ratio n d p q x =
    let e : p *ℤ (q *ℤ x.factor) ≡ (p *ℤ x.factor) *ℤ q = simp ring in
    ap (λ z. p *ℤ z) (sym x.right) ∙ e ∙ ap (λ z. z *ℤ q) x.left

-- what b and d have beside their common factor brings a/b and c/d over the least common denominator
module _ (a b c d n m : ℤ) (p : pos 0 <ℤ b) (q : pos 0 <ℤ d) (x : IsCleared b d n m) where
  den_pos : pos 0 <ℤ (b *ℤ m)
  den_pos = mul_positive b m p x.positive

  common : IsLeastCommon (unsigned_abs b) (unsigned_abs d) (unsigned_abs (b *ℤ m))
  common =
      let some : 0 < unsigned_abs x.factor = unsigned_abs_some x.factor (λ z. absurd (omega (arith, ints, q, sym x.right ∙ ap (λ y. m *ℤ y) z))) in
      subst (λ z. IsLeastCommon (unsigned_abs b) (unsigned_abs d) z) (sym (unsigned_abs-mul b m))
      (least_common _ _ _ _ _ some (sizes n x.factor b x.left) (sizes m x.factor d x.right) x.coprime)

  left_cross : (a *ℤ m) *ℤ b ≡ a *ℤ (b *ℤ m)
  left_cross = simp ring

  right_cross : (c *ℤ n) *ℤ d ≡ c *ℤ (b *ℤ m)
  right_cross =
      let e : (c *ℤ n) *ℤ (m *ℤ x.factor) ≡ c *ℤ ((n *ℤ x.factor) *ℤ m) = simp ring in
      ap (λ z. (c *ℤ n) *ℤ z) (sym x.right) ∙ e ∙ ap (λ z. c *ℤ (z *ℤ m)) x.left

  cleared_meets : Meets (over a b p) (over c d q) (unsigned_abs (b *ℤ m)) (a *ℤ m) (c *ℤ n)
  cleared_meets =
      let den = sym (pos-unsigned_abs (b *ℤ m) den_pos) in
      record {
        common = common;
        left = ap (λ z. (a *ℤ m) *ℤ z) (pos-unsigned_abs b p) ∙ left_cross ∙ ap (λ z. a *ℤ z) den;
        right = ap (λ z. (c *ℤ n) *ℤ z) (pos-unsigned_abs d q) ∙ right_cross ∙ ap (λ z. c *ℤ z) den;
      }

  pub den_passes : ¬ (IsNarrow (b *ℤ m)) → SumPasses (over a b p) (over c d q)
  den_passes h = record { den = unsigned_abs (b *ℤ m); left = a *ℤ m; right = c *ℤ n; meets = cleared_meets; wide = inl (wide_if (b *ℤ m) h) }

  pub left_passes : ¬ (IsNarrow (a *ℤ m)) → SumPasses (over a b p) (over c d q)
  left_passes h = record { den = unsigned_abs (b *ℤ m); left = a *ℤ m; right = c *ℤ n; meets = cleared_meets; wide = inr (inl (wide_if (a *ℤ m) h)) }

  pub right_passes : ¬ (IsNarrow (c *ℤ n)) → SumPasses (over a b p) (over c d q)
  right_passes h = record { den = unsigned_abs (b *ℤ m); left = a *ℤ m; right = c *ℤ n; meets = cleared_meets; wide = inr (inr (inl (wide_if (c *ℤ n) h))) }

  pub sum_passes : ¬ (IsNarrow (a *ℤ m +ℤ c *ℤ n)) → SumPasses (over a b p) (over c d q)
  sum_passes h = record { den = unsigned_abs (b *ℤ m); left = a *ℤ m; right = c *ℤ n; meets = cleared_meets; wide = inr (inr (inr (wide_if (a *ℤ m +ℤ c *ℤ n) h))) }

  pub none_passes : IsNarrow (b *ℤ m) → IsNarrow (a *ℤ m) → IsNarrow (c *ℤ n) → IsNarrow (a *ℤ m +ℤ c *ℤ n) → ¬ (SumPasses (over a b p) (over c d q))
  none_passes den left right sum = sum_fits (over a b p) (over c d q) (unsigned_abs (b *ℤ m)) (a *ℤ m) (c *ℤ n) cleared_meets den left right sum

  -- what has the ratio of the sum's numerator to the least common denominator is the sum
  pub sum_is : (y z : ℤ) (s : pos 0 <ℤ z) → y *ℤ (b *ℤ m) ≡ (a *ℤ m +ℤ c *ℤ n) *ℤ z → SameNumber (over y z s) (sum_of (over a b p) (over c d q))
  sum_is y z s e =
      let l = over (a *ℤ m +ℤ c *ℤ n) (b *ℤ m) den_pos in
      let same : SameNumber (over y z s) l = record {
        cross = ap (λ w. y *ℤ w) (pos-unsigned_abs (b *ℤ m) den_pos) ∙ e ∙ ap (λ w. (a *ℤ m +ℤ c *ℤ n) *ℤ w) (sym (pos-unsigned_abs z s));
      } in
      same-trans (over y z s) l (sum_of (over a b p) (over c d q)) same (sum_meets (over a b p) (over c d q) (unsigned_abs (b *ℤ m)) (a *ℤ m) (c *ℤ n) l.positive cleared_meets)

-- a/b and c/d in lowest terms, each numerator cleared with the other's denominator
module _ (a b c d a' b' c' d' : ℤ) (left : IsLowest a b) (right : IsLowest c d) (x : IsCleared a d a' d') (y : IsCleared c b c' b') where
  pub product_den_pos : pos 0 <ℤ (b' *ℤ d')
  product_den_pos = mul_positive b' d' y.positive x.positive

  product_coprime : IsCoprime (unsigned_abs (a' *ℤ c')) (unsigned_abs (b' *ℤ d'))
  product_coprime = rw (unsigned_abs-mul a' c', unsigned_abs-mul b' d') (IsCoprime-products _ _ _ _
      (IsCoprime-divisors _ _ _ _ left.coprime (divides a' x.factor a x.left) (divides b' y.factor b y.right))
      x.coprime
      y.coprime
      (IsCoprime-divisors _ _ _ _ right.coprime (divides c' y.factor c y.left) (divides d' x.factor d x.right)))

  product_cross : (a' *ℤ c') *ℤ (b *ℤ d) ≡ (a *ℤ c) *ℤ (b' *ℤ d')
  product_cross =
      let e : (a' *ℤ c') *ℤ ((b' *ℤ y.factor) *ℤ (d' *ℤ x.factor)) ≡ ((a' *ℤ x.factor) *ℤ (c' *ℤ y.factor)) *ℤ (b' *ℤ d') = simp ring in
      rw (← x.left, ← x.right, ← y.left, ← y.right) e

  product_same : (p : pos 0 <ℤ b) (q : pos 0 <ℤ d) (s : pos 0 <ℤ (b' *ℤ d')) → SameNumber (over (a' *ℤ c') (b' *ℤ d') s) (product_of (over a b p) (over c d q))
  product_same p q s = record {
    cross =
        let den : pos (unsigned_abs b) *ℤ pos (unsigned_abs d) ≡ b *ℤ d = ap (λ z. z *ℤ pos (unsigned_abs d)) (pos-unsigned_abs b p) ∙ ap (λ z. b *ℤ z) (pos-unsigned_abs d q) in
        ap (λ z. (a' *ℤ c') *ℤ z) den ∙ product_cross ∙ ap (λ z. (a *ℤ c) *ℤ z) (sym (pos-unsigned_abs (b' *ℤ d') s));
  }

  pub product_num_passes : (p : pos 0 <ℤ b) (q : pos 0 <ℤ d) → ¬ (IsNarrow (a' *ℤ c')) → ProductPasses (over a b p) (over c d q)
  product_num_passes p q h = record { lowest = over (a' *ℤ c') (b' *ℤ d') product_den_pos; same = product_same p q product_den_pos; wide = record { coprime = product_coprime; wide = inl (wide_if (a' *ℤ c') h) } }

  pub product_den_passes : (p : pos 0 <ℤ b) (q : pos 0 <ℤ d) → ¬ (IsNarrow (b' *ℤ d')) → ProductPasses (over a b p) (over c d q)
  product_den_passes p q h = record { lowest = over (a' *ℤ c') (b' *ℤ d') product_den_pos; same = product_same p q product_den_pos; wide = record { coprime = product_coprime; wide = inr (wide_if (b' *ℤ d') h) } }

  pub product_lowest : IsNarrow (a' *ℤ c') → IsNarrow (b' *ℤ d') → IsLowest (a' *ℤ c') (b' *ℤ d')
  product_lowest num den = record { positive = product_den_pos; num_narrow = num; den_narrow = den; coprime = product_coprime }

  pub product_is : (p : pos 0 <ℤ b) (q : pos 0 <ℤ d) (n m : ℤ) (s : pos 0 <ℤ m) → n ≡ a' *ℤ c' → m ≡ b' *ℤ d' → SameNumber (over n m s) (product_of (over a b p) (over c d q))
  product_is p q n m s num den = record {
    cross =
        let same = product_same p q product_den_pos in
        ap (λ z. z *ℤ pos (unsigned_abs b * unsigned_abs d)) num ∙ same.cross ∙ ap (λ z. (a *ℤ c) *ℤ pos (unsigned_abs z)) (sym den);
  }
