-- The order of two signed fractions, from the order of their magnitudes, and how quotients tell that.
use Rattle.std.proofs.Common.{◌≡◌, ◌≢◌, ℕ, ◌+◌, ◌*◌, ◌<◌, ◌/◌, ◌%◌, arith, suc, zero, ap, inl, inr, ℤ, pos, negsuc}
use Rattle.std.specs.Prelude.{◌*ℤ◌, ◌<ℤ◌, ◌≤ℤ◌, neg_ℤ, unsigned_abs, ◌⊎◌}
use Rattle.std.specs.Ordering.{MatchOrdering, nat_cmp}
use Rattle.std.specs.Cmp.{ranks}
use Rattle.std.specs.declared.cmp.Ordering.{Ordering}
use Rattle.std.specs.declared.cmp.Ordering.TheVariants.{Less, Equal, Greater}
use Rattle.std.proofs.lemmas.Int.{ints}
use Rattle.std.proofs.Math.Nat.{mul-pos}
use lib.IntN.{negsuc-*ℤ-pos}
use Rattle.xc_model.specs.Order.{OrdersInt, Orders}
use Rattle.xc_model.specs.Ratio.{Ratio, fraction_of}
use Rattle.xc_model.proofs.Integers.{pos-unsigned_abs}
use Rattle.xc_model.proofs.Quotients.{less_by_quotient, left_over}

-- o is how m and n compare
abbrev pub OrdersNat : Ordering → ℕ → ℕ → Type 0
OrdersNat o m n = MatchOrdering o (m < n) (m ≡ n) (n < m)

of_pos : (o : Ordering) (m n : ℕ) → OrdersNat o m n → OrdersInt o (pos m) (pos n)
of_pos Less m n h = omega (arith, ints)
of_pos Equal m n h = ap pos h
of_pos Greater m n h = omega (arith, ints)

-- magnitudes, turned round
of_neg : (o : Ordering) (m n : ℕ) (x y : ℤ) → x ≡ neg_ℤ (pos m) → y ≡ neg_ℤ (pos n) → OrdersNat o n m → OrdersInt o x y
of_neg Less m n x y e f h = omega (arith, ints)
of_neg Equal m n x y e f h = omega (arith, ints)
of_neg Greater m n x y e f h = omega (arith, ints)

-- neither is negative
pub both_up : (o : Ordering) (a b c d : ℤ) → pos 0 ≤ℤ a → pos 0 <ℤ b → pos 0 ≤ℤ c → pos 0 <ℤ d
    → OrdersNat o (unsigned_abs a * unsigned_abs d) (unsigned_abs c * unsigned_abs b) → OrdersInt o (a *ℤ d) (c *ℤ b)
both_up o (pos a) (pos b) (pos c) (pos d) p q r s h = of_pos o (a * d) (c * b) h
both_up o (negsuc a) b c d p q r s h = absurd (omega (arith, ints))
both_up o a (negsuc b) c d p q r s h = absurd (omega (arith, ints))
both_up o a b (negsuc c) d p q r s h = absurd (omega (arith, ints))
both_up o a b c (negsuc d) p q r s h = absurd (omega (arith, ints))

-- both are negative
pub both_down : (o : Ordering) (a b c d : ℤ) → a <ℤ pos 0 → pos 0 <ℤ b → c <ℤ pos 0 → pos 0 <ℤ d
    → OrdersNat o (unsigned_abs c * unsigned_abs b) (unsigned_abs a * unsigned_abs d) → OrdersInt o (a *ℤ d) (c *ℤ b)
both_down o (negsuc a) (pos b) (negsuc c) (pos d) p q r s h = of_neg o (suc a * d) (suc c * b) _ _ (negsuc-*ℤ-pos a d) (negsuc-*ℤ-pos c b) h
both_down o (pos a) b c d p q r s h = absurd (omega (arith, ints))
both_down o a (negsuc b) c d p q r s h = absurd (omega (arith, ints))
both_down o a b (pos c) d p q r s h = absurd (omega (arith, ints))
both_down o a b c (negsuc d) p q r s h = absurd (omega (arith, ints))

-- one is
pub by_sign : (a b c d : ℤ) → a <ℤ pos 0 → pos 0 <ℤ b → pos 0 ≤ℤ c → pos 0 <ℤ d → (a *ℤ d) <ℤ (c *ℤ b)
by_sign (negsuc a) (pos b) (pos c) (pos (suc d)) p q r s = omega (arith, ints)
by_sign (pos a) b c d p q r s = absurd (omega (arith, ints))
by_sign a (negsuc b) c d p q r s = absurd (omega (arith, ints))
by_sign a b (negsuc c) d p q r s = absurd (omega (arith, ints))
by_sign a b c (negsuc d) p q r s = absurd (omega (arith, ints))
by_sign a b c (pos zero) p q r s = absurd (omega (arith, ints))

-- two numbers that differ as two others do are ordered alike
alike : (o : Ordering) (m n m' n' : ℕ) → m' + n ≡ n' + m → OrdersNat o m n → OrdersNat o m' n'
alike Less m n m' n' e h = omega arith
alike Equal m n m' n' e h = omega arith
alike Greater m n m' n' e h = omega arith

above_zero : (r s : ℕ) → r < s → 0 < s
above_zero r s h = omega arith

zero_if : (r s : ℕ) → (r ≡ 0) ⊎ (s ≡ 0) → r < s → r ≡ 0
zero_if r s none h = elim none [ inl e ↦ e | inr e ↦ absurd (omega arith) ]

both_zero : (r s : ℕ) → (r ≡ 0) ⊎ (s ≡ 0) → r ≡ s → (r ≡ 0) × (s ≡ 0)
both_zero r s none h = elim none [ inl e ↦ (e, omega arith) | inr e ↦ (omega arith, e) ]

other : {P Q : Type 0} → P ⊎ Q → Q ⊎ P
other none = elim none [ inl e ↦ inr e | inr e ↦ inl e ]

-- whole parts that differ tell the order
pub by_whole : (o : Ordering) (a b c d : ℕ) → 0 < b → 0 < d → o ≡ nat_cmp (a / b) (c / d) → a / b ≢ c / d → OrdersNat o (a * d) (c * b)
by_whole o a b c d p q e apart = rw e (go (nat_cmp (a / b) (c / d)) (ranks (a / b) (c / d)))
  where
    go : (r : Ordering) → MatchOrdering r (a / b < c / d) (a / b ≡ c / d) (c / d < a / b) → OrdersNat r (a * d) (c * b)
    go Less h = less_by_quotient a b c d p q h
    go Equal h = absurd (apart h)
    go Greater h = less_by_quotient c d a b q p h

-- else what is left does, if one of the two is 0
pub by_rest : (o : Ordering) (a b c d : ℕ) → 0 < b → 0 < d → o ≡ nat_cmp (a % b) (c % d) → a / b ≡ c / d → (a % b ≡ 0) ⊎ (c % d ≡ 0) → OrdersNat o (a * d) (c * b)
by_rest o a b c d p q e same none =
    let r = a % b in
    let s = c % d in
    rw e (alike (nat_cmp r s) (r * d) (s * b) (a * d) (c * b) (left_over a b c d same) (go (nat_cmp r s) r s p q none (ranks r s)))
  where
    go : (o : Ordering) (r s : ℕ) → 0 < b → 0 < d → (r ≡ 0) ⊎ (s ≡ 0) → MatchOrdering o (r < s) (r ≡ s) (s < r) → OrdersNat o (r * d) (s * b)
    go Less r s p q none h = omega (arith, ap (λ z. z * d) (zero_if r s none h), mul-pos (above_zero r s h) p)
    go Equal r s p q none h = omega (arith, ap (λ z. z * d) (both_zero r s none h).0, ap (λ z. z * b) (both_zero r s none h).1)
    go Greater r s p q none h = omega (arith, ap (λ z. z * b) (zero_if s r (other none) h), mul-pos (above_zero s r h) q)

-- and in any case its order does
pub by_left_over : (o : Ordering) (a b c d : ℕ) → a / b ≡ c / d → OrdersNat o (d * (a % b)) (b * (c % d)) → OrdersNat o (a * d) (c * b)
by_left_over o a b c d same h = alike o (d * (a % b)) (b * (c % d)) (a * d) (c * b) (omega (arith, left_over a b c d same)) h

-- the order of the cross products is that of the numbers
pub by_cross : (o : Ordering) (f g : Ratio) → OrdersInt o (f.num *ℤ g.den) (g.num *ℤ f.den) → Orders o (fraction_of f) (fraction_of g)
by_cross o f g h = go o (rw (pos-unsigned_abs f.den f.lowest.positive, pos-unsigned_abs g.den g.lowest.positive) h)
  where
    go : (o : Ordering) → OrdersInt o (f.num *ℤ pos (unsigned_abs g.den)) (g.num *ℤ pos (unsigned_abs f.den)) → Orders o (fraction_of f) (fraction_of g)
    go Less h = record { cross = h }
    go Equal h = record { cross = h }
    go Greater h = record { cross = h }
