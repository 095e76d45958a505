-- A fraction over one denominator, written over another.
use Rattle.std.proofs.Common.{◌≡◌, ℕ, ◌*◌, ◌<◌, ℤ, pos, ◌*ℤ◌, ap, subst, ◌∙◌, arith}
use Rattle.std.proofs.lemmas.Int.{ints}
use Rattle.std.proofs.Math.Nat.{mul-pos}
use Rattle.xc_model.specs.Ratio.{Ratio, IsOver}
use Rattle.xc_model.proofs.Integers.{ring}

pub over_same_number : (f : Ratio) (n m : ℤ) (d : ℕ) → IsOver f n d → n ≡ m → IsOver f m d
over_same_number f n m d h e = record { positive = h.positive; same = h.same ∙ ap (λ z. z *ℤ f.den) e }

pub over_same_den : (f : Ratio) (n : ℤ) (d e : ℕ) → IsOver f n d → d ≡ e → IsOver f n e
over_same_den f n d e h g = subst (IsOver f n) g h

scaled_cross : (f n a d k : ℤ) → f *ℤ d ≡ n *ℤ a → f *ℤ (k *ℤ d) ≡ (k *ℤ n) *ℤ a
scaled_cross f n a d k e = let g : k *ℤ (f *ℤ d) ≡ k *ℤ (n *ℤ a) = ap (λ (z : ℤ). k *ℤ z) e in simp ring (omega (arith, ints, simp ring at g))

-- n / d is (k n) / (k d)
pub over_scaled : (f : Ratio) (n : ℤ) (d k : ℕ) → 0 < k → IsOver f n d → IsOver f (pos k *ℤ n) (k * d)
over_scaled f n d k p h = record { positive = mul-pos p h.positive; same = scaled_cross f.num n f.den (pos d) (pos k) h.same }
