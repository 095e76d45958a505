-- Gauss's lemma on divisors, by Euclid's algorithm, and numbers without a common factor.
use Rattle.std.proofs.Common.{◌≡◌, ℕ, ◌+◌, ◌*◌, ◌<◌, ◌/◌, ◌%◌, arith, suc, zero, refl, sym, ◌∙◌, ap, subst}
use Rattle.std.specs.Int.{IsGcd}
use Rattle.std.proofs.lemmas.Nat.Gcd.{IsGcd-from_zero, IsGcd-from_mod, same_from_IsGcd, dvd_refl}
use Rattle.std.proofs.lemmas.Nat.{mod_below, mod-mul-add, div-add-mod'}
use Prim.Native.Nat.{◌∣◌}
use native.Mathlib.Nat.{mul-lt-mul_of_pos_right, dvd-mod_iff, dvd-mul_right, dvd_trans, eq-one_of_dvd-one, one-dvd, mul-dvd-mul_right, dvd_of_mul-dvd-mul_right}
use Rattle.xc_model.specs.Divisors.{IsCoprime}

IsGcd-mod : (a b g : ℕ) → IsGcd a b g → IsGcd b (a % b) g
IsGcd-mod a b g h = (h.1, (dvd-mod_iff g h.1).1 h.0, λ d left right. h.2 d ((dvd-mod_iff d left).0 right) left)

-- a remainder is multiplied with its numbers
mod-mul : (a b u : ℕ) → 0 < b → (a * u) % (b * u) ≡ (a % b) * u
mod-mul a b zero p = omega arith
mod-mul a b (suc v) p =
    let u : ℕ = suc v in
    let e : a * u ≡ (a / b) * (b * u) + (a % b) * u = ap (λ z. z * u) (sym (div-add-mod' a b)) ∙ omega arith in
    let small : (a % b) * u < b * u = mul-lt-mul_of_pos_right (mod_below a b p) (omega arith) in
    ap (λ z. z % (b * u)) e ∙ mod-mul-add (a / b) (b * u) ((a % b) * u) small

scaled : (fuel a b g u : ℕ) → b < fuel → IsGcd a b g → IsGcd (a * u) (b * u) (g * u)
scaled zero a b g u h d = absurd (omega arith)
scaled (suc f) a zero g u h d =
    let e : g ≡ a = same_from_IsGcd a zero g a d (IsGcd-from_zero a zero refl) in
    rw e (IsGcd-from_zero (a * u) (0 * u) (omega arith))
scaled (suc f) a (suc k) g u h d =
    let small : a % suc k < f = omega (arith, mod_below a (suc k)) in
    let below = scaled f (suc k) (a % suc k) g u small (IsGcd-mod a (suc k) g d) in
    IsGcd-from_mod (a * u) (suc k * u) (g * u) (rw (mod-mul a (suc k) u (omega arith)) below)

-- a common factor comes out of a greatest common divisor
pub IsGcd-mul : (a b g u : ℕ) → IsGcd a b g → IsGcd (a * u) (b * u) (g * u)
IsGcd-mul a b g u = scaled (suc b) a b g u (omega arith)

IsGcd-one : (m n : ℕ) → IsCoprime m n → IsGcd m n 1
IsGcd-one m n h = (one-dvd m, one-dvd n, λ d l r. subst (λ z. z ∣ 1) (sym (h d l r)) (dvd_refl 1))

pub IsCoprime-swap : (m n : ℕ) → IsCoprime m n → IsCoprime n m
IsCoprime-swap m n h k l r = h k r l

-- what divides a product, and has no factor in common with one part of it, divides the other
pub gauss : (m n u : ℕ) → IsCoprime m n → m ∣ n * u → m ∣ u
gauss m n u h d =
    let all : m ∣ 1 * u = (IsGcd-mul m n 1 u (IsGcd-one m n h)).2 m (dvd-mul_right m u) d in
    let one : 1 * u ≡ u = omega arith in
    subst (λ z. m ∣ z) one all

-- divisors of numbers without a common factor have none
pub IsCoprime-divisors : (m n p q : ℕ) → IsCoprime m n → p ∣ m → q ∣ n → IsCoprime p q
IsCoprime-divisors m n p q h l r k i j = h k (dvd_trans k i l) (dvd_trans k j r)

IsCoprime-mul : (p r s : ℕ) → IsCoprime p r → IsCoprime p s → IsCoprime p (r * s)
IsCoprime-mul p r s h i k l d = i k l (gauss k r s (λ j left right. h j (dvd_trans j left l) right) d)

-- products of numbers that have no factor in common, each with each
pub IsCoprime-products : (a c b d : ℕ) → IsCoprime a b → IsCoprime a d → IsCoprime c b → IsCoprime c d → IsCoprime (a * c) (b * d)
IsCoprime-products a c b d ab ad cb cd =
    let left = IsCoprime-swap a (b * d) (IsCoprime-mul a b d ab ad) in
    let right = IsCoprime-swap c (b * d) (IsCoprime-mul c b d cb cd) in
    IsCoprime-swap (b * d) (a * c) (IsCoprime-mul (b * d) a c left right)

-- two numbers over their greatest common divisor
pub IsCoprime-over_gcd : (a b g p q : ℕ) → IsGcd a b g → 0 < g → p * g ≡ a → q * g ≡ b → IsCoprime p q
IsCoprime-over_gcd a b g p q gcd some e f k l r =
    let left : k * g ∣ a = subst (λ z. k * g ∣ z) e (mul-dvd-mul_right k l g) in
    let right : k * g ∣ b = subst (λ z. k * g ∣ z) f (mul-dvd-mul_right k r g) in
    let one : g ≡ 1 * g = omega arith in
    eq-one_of_dvd-one (dvd_of_mul-dvd-mul_right {k = g} k some (subst (λ z. k * g ∣ z) one (gcd.2 (k * g) left right)))
