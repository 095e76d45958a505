-- The factors and values after an exchange are the exact results of the operations on those before it.
use Rattle.std.proofs.Common.{◌≡◌, ◌≢◌, ℕ, ◌*◌, ◌<◌, ℤ, pos, ◌+ℤ◌, ◌-ℤ◌, ◌*ℤ◌, neg_ℤ, refl, sym, ◌∙◌, arith}
use Rattle.std.specs.Prelude.{unsigned_abs}
use Rattle.std.proofs.lemmas.Int.{ints}
use Rattle.std.proofs.lemmas.Bool.{eq-eqb, ne_eqb}
use Rattle.std.proofs.Math.Nat.{mul-pos}
use Rattle.xc_frac.specs.declared.wide.Op.TheVariants.{Add, Mul}
use Rattle.xc_model.specs.Fraction.{IsProductOver}
use Rattle.xc_model.specs.Ratio.{Ratio, fraction_of, IsOver}
use Rattle.xc_model.proofs.Integers.{ring, unsigned_abs_some}
use Rattle.xc_model.proofs.NumbersOver.{over_number, number_over, number_over-same, neg_number, sum_number, product_number, quotient_number}
use Rattle.xc_model.proofs.Rescaled.{over_same_number, over_scaled}
use Rattle.xc_corners.specs.Corners.{Factors}
use Rattle.xc_corners.specs.Operations.{Gives, IsOwnFactor, IsOtherFactor, IsProductFactor, IsFactor}
use Rattle.xc_corners.specs.Tables.{factors_after_exchange, sign}
use Rattle.xc_corners.proofs.Pivoting.{unsigned_abs-sign, factor_q, factor_other}

-- ---- Results over common denominators.

pub sum_gives : (f g r : Ratio) (n m : ℤ) (d : ℕ) → IsOver f n d → IsOver g m d → Gives Add f g r → IsOver r (n +ℤ m) d
sum_gives f g r n m d left right h = number_over r _ d (number_over-same _ (fraction_of r) _ d h (sum_number (fraction_of f) (fraction_of g) n m d (over_number f n d left) (over_number g m d right)))

pub product_gives : (f g r : Ratio) (n m p : ℤ) (d e c : ℕ) → IsOver f n d → IsOver g m e → IsProductOver n d m e p c → Gives Mul f g r → IsOver r p c
product_gives f g r n m p d e c left right times h =
    number_over r p c (number_over-same _ (fraction_of r) p c h (product_number (fraction_of f) (fraction_of g) n m p d e c (over_number f n d left) (over_number g m e right) times))

-- ---- Factors: s is the sign and f the factor of q in the sum for b, a its magnitude, w the denominator.

own_cross : (s f w a : ℤ) → a ≡ s *ℤ f → ((s *ℤ (w *ℤ w)) *ℤ f) *ℤ pos 1 ≡ pos 1 *ℤ ((a *ℤ w) *ℤ w)
own_cross s f w a e = rw e (simp ring (omega (arith, ints)))

other_cross : (s f w a g : ℤ) → a ≡ s *ℤ f → ((s *ℤ neg_ℤ (w *ℤ g)) *ℤ f) *ℤ w ≡ neg_ℤ g *ℤ ((a *ℤ w) *ℤ w)
other_cross s f w a g e = rw e (simp ring)

own_times_cross : (s w a k : ℤ) → (s *ℤ (k *ℤ w)) *ℤ (w *ℤ (a *ℤ w)) ≡ (k *ℤ (s *ℤ (w *ℤ w))) *ℤ (a *ℤ w)
own_times_cross s w a k = simp ring

other_times_cross : (s w a k g : ℤ) → (s *ℤ neg_ℤ (k *ℤ g)) *ℤ (w *ℤ (a *ℤ w)) ≡ (k *ℤ (s *ℤ neg_ℤ (w *ℤ g))) *ℤ (a *ℤ w)
other_times_cross s w a k g = simp ring

added_cross : (s f a g k h : ℤ) → a ≡ s *ℤ f → a *ℤ g +ℤ s *ℤ neg_ℤ (k *ℤ h) ≡ s *ℤ (f *ℤ g -ℤ k *ℤ h)
added_cross s f a g k h e = rw e (simp ring (omega (arith, ints)))

module _ (t : Factors) (b q : ℕ) (positive : 0 < t.over) (some : t.factor b q ≢ pos 0) where
  new_positive : 0 < unsigned_abs (t.factor b q) * t.over
  new_positive = mul-pos (unsigned_abs_some _ some) positive

  size : pos (unsigned_abs (t.factor b q)) ≡ sign (t.factor b q) *ℤ t.factor b q
  size = unsigned_abs-sign (t.factor b q)

  pub own_exact : (u : Ratio) → IsOwnFactor (IsFactor t) b q u → IsFactor (factors_after_exchange t b q) q b u
  unfolding factors_after_exchange
  own_exact u o = over_same_number u _ _ _
      (number_over u _ _ (quotient_number (fraction_of o.one) (fraction_of o.pivot) (pos 1) (t.factor b q) (sign (t.factor b q) *ℤ (pos t.over *ℤ pos t.over)) 1 t.over (unsigned_abs (t.factor b q) * t.over)
      (over_number o.one (pos 1) 1 o.is_one) (over_number o.pivot _ t.over o.is_pivot) (record { positive = new_positive; cross = own_cross (sign (t.factor b q)) (t.factor b q) (pos t.over) (pos (unsigned_abs (t.factor b q))) size }) (fraction_of u) o.gives))
      (sym (factor_q t b q))

  factor_entering : (j : ℕ) → j ≢ b → (factors_after_exchange t b q).factor q j ≡ sign (t.factor b q) *ℤ neg_ℤ (pos t.over *ℤ t.factor b j)
  unfolding factors_after_exchange
  factor_entering j n = rw (eq-eqb q q refl, ne_eqb j b n)

  factor_rest : (k j : ℕ) → k ≢ q → j ≢ b → (factors_after_exchange t b q).factor k j ≡ sign (t.factor b q) *ℤ (t.factor b q *ℤ t.factor k j -ℤ t.factor k q *ℤ t.factor b j)
  unfolding factors_after_exchange
  factor_rest k j m n = rw (ne_eqb k q m, ne_eqb j b n)

  other_over : (j : ℕ) (u : Ratio) → IsOtherFactor (IsFactor t) b q j u → IsOver u (sign (t.factor b q) *ℤ neg_ℤ (pos t.over *ℤ t.factor b j)) (unsigned_abs (t.factor b q) * t.over)
  other_over j u o = number_over u _ _ (quotient_number (fraction_of o.negative) (fraction_of o.pivot) (neg_ℤ (t.factor b j)) (t.factor b q) (sign (t.factor b q) *ℤ neg_ℤ (pos t.over *ℤ t.factor b j)) t.over t.over (unsigned_abs (t.factor b q) * t.over)
      (number_over-same _ (fraction_of o.negative) _ t.over o.is_negative (neg_number (fraction_of o.factor) _ t.over (over_number o.factor _ t.over o.is_factor)))
      (over_number o.pivot _ t.over o.is_pivot) (record { positive = new_positive; cross = other_cross (sign (t.factor b q)) (t.factor b q) (pos t.over) (pos (unsigned_abs (t.factor b q))) (t.factor b j) size }) (fraction_of u) o.gives)

  pub other_exact : (j : ℕ) (u : Ratio) → j ≢ b → IsOtherFactor (IsFactor t) b q j u → IsFactor (factors_after_exchange t b q) q j u
  unfolding factors_after_exchange
  other_exact j u n o = over_same_number u _ _ _ (other_over j u o) (sym (factor_entering j n))

  own_over : (u : Ratio) → IsOwnFactor (IsFactor t) b q u → IsOver u (sign (t.factor b q) *ℤ (pos t.over *ℤ pos t.over)) (unsigned_abs (t.factor b q) * t.over)
  unfolding factors_after_exchange
  own_over u o = over_same_number u _ _ _ (own_exact u o) (factor_q t b q)

  pub own_times_exact : (k : ℕ) (f u m : Ratio) → k ≢ q → IsFactor t k q f → IsOwnFactor (IsFactor t) b q u → Gives Mul f u m → IsFactor (factors_after_exchange t b q) k b m
  unfolding factors_after_exchange
  own_times_exact k f u m n h o g = over_same_number m _ _ _
      (product_gives f u m (t.factor k q) _ (sign (t.factor b q) *ℤ (t.factor k q *ℤ pos t.over)) t.over _ (unsigned_abs (t.factor b q) * t.over) h (own_over u o)
      (record { positive = new_positive; cross = own_times_cross (sign (t.factor b q)) (pos t.over) (pos (unsigned_abs (t.factor b q))) (t.factor k q) }) g)
      (sym (factor_other t b q k n))

  product_over : (k j : ℕ) (m : Ratio) → IsProductFactor (IsFactor t) b q k j m → IsOver m (sign (t.factor b q) *ℤ neg_ℤ (t.factor k q *ℤ t.factor b j)) (unsigned_abs (t.factor b q) * t.over)
  product_over k j m o = product_gives o.factor o.other m (t.factor k q) _ _ t.over _ (unsigned_abs (t.factor b q) * t.over) o.is_factor (other_over j o.other o.is_other)
      (record { positive = new_positive; cross = other_times_cross (sign (t.factor b q)) (pos t.over) (pos (unsigned_abs (t.factor b q))) (t.factor k q) (t.factor b j) }) o.gives

  pub other_added_exact : (k j : ℕ) (f m r : Ratio) → k ≢ q → j ≢ b → IsFactor t k j f → IsProductFactor (IsFactor t) b q k j m → Gives Add f m r → IsFactor (factors_after_exchange t b q) k j r
  unfolding factors_after_exchange
  other_added_exact k j f m r n n' h o g = over_same_number r _ _ _
      (sum_gives f m r _ _ _ (over_scaled f (t.factor k j) t.over (unsigned_abs (t.factor b q)) (unsigned_abs_some _ some) h) (product_over k j m o) g)
      (added_cross (sign (t.factor b q)) (t.factor b q) (pos (unsigned_abs (t.factor b q))) (t.factor k j) (t.factor k q) (t.factor b j) size ∙ sym (factor_rest k j n n'))
