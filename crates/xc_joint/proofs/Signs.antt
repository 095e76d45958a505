-- Numbers that are 0, 1 or -1.
use Rattle.std.proofs.Common.{◌≡◌, ℕ, ◌<◌, ◌*◌, ℤ, pos, ◌*ℤ◌, negsuc, sym, ap, subst, ◌∙◌, arith}
use Rattle.std.specs.Prelude.{unsigned_abs}
use Rattle.std.proofs.Props.{props}
use Rattle.std.proofs.lemmas.Int.{ints, unsigned_abs-mul}
use Rattle.std.proofs.lemmas.Nat.Gcd.{dvd_refl}
use Rattle.xc_model.proofs.Integers.{pos-unsigned_abs}
use Prim.Native.Nat.{◌∣◌}
use native.Mathlib.Nat.{dvd-mul_left}
use Rattle.xc_model.specs.Fraction.{Fraction, IsNumberOver, whole}
use Rattle.xc_model.proofs.NumbersOver.{over_number}
use Rattle.xc_model.specs.Ratio.{Ratio, IsOver, fraction_of}

below_prop : (n : ℕ) → IsProp (0 < n)
below_prop n = hlevel props

abbrev built : (n : ℤ) (d : ℕ) → 0 < d → Fraction
built n d p = record { num = n; den = d; positive = p }

-- it does not matter why a denominator is positive
same_fraction : (n m : ℤ) (d e : ℕ) → n ≡ m → d ≡ e → (p : 0 < d) (q : 0 < e) → built n d p ≡ built m e q
same_fraction n m d e num den p =
    let same : (q : 0 < d) → built n d p ≡ built n d q = λ q. ap (λ k. built n d k) (below_prop d p q) in
    let same_num : (q : 0 < d) → built n d p ≡ built m d q = subst (λ z. (q : 0 < d) → built n d p ≡ built z d q) num same in
    subst (λ k. (q : 0 < k) → built n d p ≡ built m k q) den same_num

-- a number over 1 is in lowest terms
pub den_is_one : (f : Ratio) (z : ℤ) → IsOver f z 1 → unsigned_abs f.den ≡ 1
den_is_one f z h =
    let sizes : unsigned_abs f.num ≡ unsigned_abs z * unsigned_abs f.den = sym (one_times f.num) ∙ ap unsigned_abs h.same ∙ unsigned_abs-mul z f.den in
    f.lowest.coprime (unsigned_abs f.den) (subst (λ k. unsigned_abs f.den ∣ k) (sym sizes) (dvd-mul_left (unsigned_abs f.den) (unsigned_abs z))) (dvd_refl (unsigned_abs f.den))
  where
    one_times : (n : ℤ) → unsigned_abs (n *ℤ pos 1) ≡ unsigned_abs n
    one_times n = let e = unsigned_abs-mul n (pos 1) in omega (arith, e)

pub den_one : (f : Ratio) (z : ℤ) → IsOver f z 1 → f.den ≡ pos 1
den_one f z h = sym (pos-unsigned_abs f.den f.lowest.positive) ∙ ap pos (den_is_one f z h)

pub num_is : (f : Ratio) (z : ℤ) → IsOver f z 1 → f.num ≡ z
num_is f z h =
    let one = den_one f z h in
    let e : f.num *ℤ pos 1 ≡ z *ℤ pos 1 = h.same ∙ ap (λ k. z *ℤ k) one in
    omega (arith, ints, e)

pub fraction_is : (f : Ratio) (z : ℤ) → IsOver f z 1 → fraction_of f ≡ whole z
fraction_is f z h = same_fraction f.num z (unsigned_abs f.den) 1 (num_is f z h) (den_is_one f z h) (fraction_of f).positive (whole z).positive

pub fraction_one : (f : Ratio) → (f.num ≡ pos 1) × (f.den ≡ pos 1) → IsNumberOver (fraction_of f) (pos 1) 1
fraction_one f h = over_number f (pos 1) 1 (record { positive = omega arith; same = ap (λ n. n *ℤ pos 1) h.0 ∙ ap (λ d. pos 1 *ℤ d) (sym h.1) })

pub fraction_minus : (f : Ratio) → (f.num ≡ negsuc 0) × (f.den ≡ pos 1) → IsNumberOver (fraction_of f) (negsuc 0) 1
fraction_minus f h = over_number f (negsuc 0) 1 (record { positive = omega arith; same = ap (λ n. n *ℤ pos 1) h.0 ∙ ap (λ d. negsuc 0 *ℤ d) (sym h.1) })
