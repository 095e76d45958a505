-- Fractions as whole numbers over a common denominator.
use Rattle.std.proofs.Common.{◌/◌, ◌≡◌, ◌≢◌, ℕ, ◌*◌, ◌<◌, ◌≤◌, ◌^◌, arith, ℤ, pos, sym, ◌∙◌, ap, subst, inl, inr}
use Rattle.std.specs.Prelude.{◌+ℤ◌, ◌-ℤ◌, ◌*ℤ◌, ◌<ℤ◌, neg_ℤ, unsigned_abs}
use Rattle.std.proofs.lemmas.Int.{ints}
use Prim.Native.Nat.{◌∣◌}
use native.Mathlib.Nat.{mul-div_cancel'}
use Rattle.std.specs.declared.cmp.Ordering.{Ordering}
use Rattle.std.specs.declared.cmp.Ordering.TheVariants.{Less, Equal, Greater}
use Rattle.xc_model.specs.Divisors.{IsCoprime}
use Rattle.xc_model.specs.Fraction.{Fraction, SameNumber, neg_of, sum_of}
use Rattle.xc_model.specs.Order.{OrdersInt, Orders, SameSign}
use Rattle.xc_model.specs.Ratio.{Ratio, fraction_of, IsOver}
use Rattle.xc_model.specs.Width.{IsNarrow, IsWide, SumPasses, DifferencePasses}
use Rattle.xc_model.proofs.Integers.{ring, add-mul, cancel, cancel_lt, scale_lt, mul_comm, pos-unsigned_abs, unsigned_abs-neg, factor_below}
use Rattle.xc_model.proofs.Lowest.{lowest_den_divides}
use Rattle.xc_model.proofs.Numbers.{den_some, same-sym, same-trans, same-sum, same-neg, below-same}

-- n / d
abbrev pub ratio : (n : ℤ) (d : ℕ) → 0 < d → Fraction
ratio n d p = record { num = n; den = d; positive = p }

-- f and n / d are the same number, and the other way
pub over_same : (f : Ratio) (n : ℤ) (d : ℕ) (p : 0 < d) → IsOver f n d → SameNumber (fraction_of f) (ratio n d p)
over_same f n d p h = record { cross = h.same ∙ ap (λ z. n *ℤ z) (sym (pos-unsigned_abs f.den f.lowest.positive)) }

pub same_over : (f : Ratio) (n : ℤ) (d : ℕ) (p : 0 < d) → SameNumber (fraction_of f) (ratio n d p) → IsOver f n d
same_over f n d p h = record { positive = p; same = h.cross ∙ ap (λ z. n *ℤ z) (pos-unsigned_abs f.den f.lowest.positive) }

-- n/d + m/d is (n + m)/d
pub add_over : (n m : ℤ) (d : ℕ) (p : 0 < d) → SameNumber (sum_of (ratio n d p) (ratio m d p)) (ratio (n +ℤ m) d p)
add_over n m d p = record {
  cross =
      let e : (a b c : ℤ) → (a *ℤ c +ℤ b *ℤ c) *ℤ c ≡ (a +ℤ b) *ℤ (c *ℤ c) = λ a b c. simp ring (omega (arith, ints)) in
      e n m (pos d);
}

-- the sum of two fractions over d
pub sum_over : (f g r : Ratio) (n m : ℤ) (d : ℕ) → SameNumber (fraction_of r) (sum_of (fraction_of f) (fraction_of g)) → IsOver f n d → IsOver g m d → IsOver r (n +ℤ m) d
sum_over f g r n m d h left right =
    let p = left.positive in
    let terms = same-sum (fraction_of f) (fraction_of g) (ratio n d p) (ratio m d p) (over_same f n d p left) (over_same g m d p right) in
    same_over r (n +ℤ m) d p (same-trans (fraction_of r) (sum_of (fraction_of f) (fraction_of g)) (ratio (n +ℤ m) d p) h
    (same-trans (sum_of (fraction_of f) (fraction_of g)) (sum_of (ratio n d p) (ratio m d p)) (ratio (n +ℤ m) d p) terms (add_over n m d p)))

-- the negative of a fraction over d
pub neg_over : (f r : Ratio) (n : ℤ) (d : ℕ) → SameNumber (fraction_of r) (neg_of (fraction_of f)) → IsOver f n d → IsOver r (neg_ℤ n) d
neg_over f r n d h left =
    let p = left.positive in
    same_over r (neg_ℤ n) d p (same-trans (fraction_of r) (neg_of (fraction_of f)) (ratio (neg_ℤ n) d p) h (same-neg (fraction_of f) (ratio n d p) (over_same f n d p left)))

-- a numerator p over l stands for n over d = l k, so it is a factor of n
scaled : (a b l k p n : ℤ) → b ≢ pos 0 → a *ℤ (l *ℤ k) ≡ n *ℤ b → p *ℤ b ≡ a *ℤ l → p *ℤ k ≡ n
scaled a b l k p n some over meets =
    let left : b *ℤ (p *ℤ k) ≡ (p *ℤ b) *ℤ k = simp ring in
    let middle : (a *ℤ l) *ℤ k ≡ a *ℤ (l *ℤ k) = simp ring in
    cancel b (p *ℤ k) n some (left ∙ ap (λ z. z *ℤ k) meets ∙ middle ∙ over ∙ mul_comm n b)

too_wide : (z c : ℤ) → unsigned_abs z ≤ unsigned_abs c → IsNarrow c → IsWide z → ⊥
too_wide z c below narrow wide = omega arith

no_product : (l k d : ℕ) → l * k ≡ d → 0 < d → k ≡ 0 → ⊥
no_product l k d e p h = omega (arith, e, ap (λ z. l * z) h)

-- over any common denominator d no number is less in magnitude than over the least: where all fits over d, nothing passes
pub room : (x y : Fraction) (n m : ℤ) (d : ℕ) (p : 0 < d) → SameNumber x (ratio n d p) → SameNumber y (ratio m d p)
    → IsCoprime (unsigned_abs x.num) x.den → IsCoprime (unsigned_abs y.num) y.den → d < 2 ^ 127 → IsNarrow n → IsNarrow m → IsNarrow (n +ℤ m) → SumPasses x y → ⊥
room x y n m d p left right left_lowest right_lowest d_narrow n_narrow m_narrow sum_narrow w =
    let divides : w.den ∣ d = w.meets.common.least d (lowest_den_divides x (ratio n d p) left left_lowest) (lowest_den_divides y (ratio m d p) right right_lowest) in
    let k : ℕ = d / w.den in
    let d_is : w.den * k ≡ d = mul-div_cancel' w.den divides in
    let whole : pos w.den *ℤ pos k ≡ pos d = ap (λ (z : ℕ). pos z) d_is in
    let some : pos k ≢ pos 0 = λ e. no_product w.den k d d_is p (omega (arith, ints, e)) in
    let left_is : w.left *ℤ pos k ≡ n = scaled x.num (pos x.den) (pos w.den) (pos k) w.left n (den_some x) (ap (λ z. x.num *ℤ z) whole ∙ left.cross) w.meets.left in
    let right_is : w.right *ℤ pos k ≡ m = scaled y.num (pos y.den) (pos w.den) (pos k) w.right m (den_some y) (ap (λ z. y.num *ℤ z) whole ∙ right.cross) w.meets.right in
    let sum_is : (w.left +ℤ w.right) *ℤ pos k ≡ n +ℤ m = add-mul w.left w.right (pos k) ∙ ap (λ z. z +ℤ w.right *ℤ pos k) left_is ∙ ap (λ z. n +ℤ z) right_is in
    elim w.wide [
      | inl wide ↦ too_wide (pos w.den) (pos d) (factor_below (pos w.den) (pos k) (pos d) whole some) d_narrow wide
      | inr rest ↦ elim rest [
        | inl wide ↦ too_wide w.left n (factor_below w.left (pos k) n left_is some) n_narrow wide
        | inr rest ↦ elim rest [
          | inl wide ↦ too_wide w.right m (factor_below w.right (pos k) m right_is some) m_narrow wide
          | inr wide ↦ too_wide (w.left +ℤ w.right) (n +ℤ m) (factor_below (w.left +ℤ w.right) (pos k) (n +ℤ m) sum_is some) sum_narrow wide
        ]
      ]
    ]

pub sum_room : (f g : Ratio) (n m : ℤ) (d : ℕ) → IsOver f n d → IsOver g m d → d < 2 ^ 127 → IsNarrow n → IsNarrow m → IsNarrow (n +ℤ m) → SumPasses (fraction_of f) (fraction_of g) → ⊥
sum_room f g n m d left right =
    let p = left.positive in
    room (fraction_of f) (fraction_of g) n m d p (over_same f n d p left) (over_same g m d p right) f.lowest.coprime g.lowest.coprime

pub difference_room : (f g : Ratio) (n m : ℤ) (d : ℕ) → IsOver f n d → IsOver g m d → d < 2 ^ 127 → IsNarrow n → IsNarrow m → IsNarrow (n -ℤ m) → DifferencePasses (fraction_of f) (fraction_of g) → ⊥
difference_room f g n m d left right d_narrow n_narrow m_narrow difference_narrow =
    let p = left.positive in
    let turned : SameNumber (neg_of (fraction_of g)) (ratio (neg_ℤ m) d p) = same-neg (fraction_of g) (ratio m d p) (over_same g m d p right) in
    let lowest : IsCoprime (unsigned_abs (neg_ℤ g.num)) (fraction_of g).den = subst (λ z. IsCoprime z (fraction_of g).den) (sym (unsigned_abs-neg g.num)) g.lowest.coprime in
    room (fraction_of f) (neg_of (fraction_of g)) n (neg_ℤ m) d p (over_same f n d p left) turned f.lowest.coprime lowest d_narrow n_narrow (omega (arith, ints, unsigned_abs-neg m)) (omega (arith, ints))

pub same_factor : (d : ℕ) (n m : ℤ) → 0 < d → n *ℤ pos d ≡ m *ℤ pos d → n ≡ m
same_factor d n m p e = cancel (pos d) n m (λ z. absurd (omega (arith, ints, z))) (mul_comm (pos d) n ∙ e ∙ mul_comm m (pos d))

pub below_factor : (d : ℕ) (n m : ℤ) → 0 < d → (n *ℤ pos d) <ℤ (m *ℤ pos d) → n <ℤ m
below_factor d n m p h = cancel_lt (pos d) n m (omega (arith, ints)) (omega (arith, ints, h, mul_comm (pos d) n, mul_comm (pos d) m))

-- two fractions over d compare as their numerators do
pub order_over : (o : Ordering) (f g : Ratio) (n m : ℤ) (d : ℕ) → Orders o (fraction_of f) (fraction_of g) → IsOver f n d → IsOver g m d → OrdersInt o n m
order_over Less f g n m d h left right =
    let p = left.positive in
    let below = below-same (fraction_of f) (fraction_of g) (ratio n d p) (ratio m d p) (over_same f n d p left) (over_same g m d p right) h in
    below_factor d n m p below.cross
order_over Equal f g n m d h left right =
    let p = left.positive in
    let same = same-trans (ratio n d p) (fraction_of f) (ratio m d p) (same-sym (fraction_of f) (ratio n d p) (over_same f n d p left)) (same-trans (fraction_of f) (fraction_of g) (ratio m d p) h (over_same g m d p right)) in
    same_factor d n m p same.cross
order_over Greater f g n m d h left right =
    let p = left.positive in
    let below = below-same (fraction_of g) (fraction_of f) (ratio m d p) (ratio n d p) (over_same g m d p right) (over_same f n d p left) h in
    below_factor d m n p below.cross

below_sign : (y z k l : ℤ) → pos 0 <ℤ k → pos 0 <ℤ l → y *ℤ k ≡ z *ℤ l → y <ℤ pos 0 → z <ℤ pos 0
below_sign y z k l p q e h = cancel_lt l z (pos 0) q (omega (arith, ints, e, mul_comm l z, mul_comm k y, scale_lt k y (pos 0) p h))

above_sign : (y z k l : ℤ) → pos 0 <ℤ k → pos 0 <ℤ l → y *ℤ k ≡ z *ℤ l → pos 0 <ℤ y → pos 0 <ℤ z
above_sign y z k l p q e h = cancel_lt l (pos 0) z q (omega (arith, ints, e, mul_comm l z, mul_comm k y, scale_lt k (pos 0) y p h))

zero_sign : (y z k l : ℤ) → pos 0 <ℤ l → y *ℤ k ≡ z *ℤ l → y ≡ pos 0 → z ≡ pos 0
zero_sign y z k l q e h = cancel l z (pos 0) (λ w. absurd (omega (arith, ints, w))) (mul_comm l z ∙ sym e ∙ ap (λ w. w *ℤ k) h ∙ omega (arith, ints))

-- a numerator over d has the sign of the fraction
pub sign_over : (f : Ratio) (n : ℤ) (d : ℕ) → IsOver f n d → SameSign f.num n
sign_over f n d h =
    let p : pos 0 <ℤ pos d = omega (arith, ints, h.positive) in
    let q = f.lowest.positive in
    record {
      below = (below_sign f.num n (pos d) f.den p q h.same, below_sign n f.num f.den (pos d) q p (sym h.same));
      zero = (zero_sign f.num n (pos d) f.den q h.same, zero_sign n f.num f.den (pos d) p (sym h.same));
      above = (above_sign f.num n (pos d) f.den p q h.same, above_sign n f.num f.den (pos d) q p (sym h.same));
    }
