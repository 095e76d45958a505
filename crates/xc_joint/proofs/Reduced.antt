-- A whole number over another, both narrow, is a fraction in lowest terms.
use Rattle.std.proofs.Common.{◌≡◌, ◌≢◌, ℕ, zero, suc, ◌*◌, ◌/◌, ◌%◌, ◌<◌, ◌≤◌, ◌^◌, ℤ, pos, negsuc, neg_ℤ, ◌*ℤ◌, refl, sym, ap, ◌∙◌, arith, mul_comm}
use Rattle.std.specs.Prelude.{unsigned_abs}
use Rattle.std.specs.Int.{IsGcd}
use Rattle.std.proofs.lemmas.Int.{ints, unsigned_abs-mul}
use Rattle.std.proofs.lemmas.Nat.{mod_below}
use Rattle.std.proofs.lemmas.Nat.Gcd.{IsGcd-from_zero, IsGcd-from_mod}
use native.Mathlib.Nat.{mul-div_cancel', pos_of_dvd_of_pos}
use Rattle.xc_model.specs.Ratio.{Ratio, IsOver}
use Rattle.xc_model.specs.Width.{IsNarrow}
use Rattle.xc_model.proofs.Gauss.{IsCoprime-over_gcd}
use Rattle.xc_model.proofs.Integers.{ring, factor_below, neg-mul}

-- by Euclid's algorithm there is a greatest common divisor
gcd_of : (fuel a b : ℕ) → b < fuel → (g : ℕ) × IsGcd a b g
gcd_of zero a b l = absurd (omega arith)
gcd_of (suc f) a zero l = (a, IsGcd-from_zero a zero refl)
gcd_of (suc f) a (suc k) l =
    let below : a % suc k < suc k = mod_below a (suc k) (omega arith) in
    let r = gcd_of f (suc k) (a % suc k) (omega (arith, below, l)) in
    (r.0, IsGcd-from_mod a (suc k) r.0 r.1)

-- a factor of the magnitude is one of the number
signed : (n : ℤ) (k g : ℕ) → k * g ≡ unsigned_abs n → (p : ℤ) × (p *ℤ pos g ≡ n)
signed (pos m) k g e = (pos k, ap (λ (z : ℕ). pos z) e)
signed (negsuc m) k g e = (neg_ℤ (pos k), neg-mul (pos k) (pos g) ∙ ap (λ (z : ℕ). neg_ℤ (pos z)) e)

crossed : (n p q g d : ℤ) → p *ℤ g ≡ n → q *ℤ g ≡ d → p *ℤ d ≡ n *ℤ q
crossed n p q g d e f =
    let turned : p *ℤ (q *ℤ g) ≡ (p *ℤ g) *ℤ q = simp ring in
    ap (λ z. p *ℤ z) (sym f) ∙ turned ∙ ap (λ z. z *ℤ q) e

some_factor : (q g d : ℕ) → q * g ≡ d → 0 < d → 0 < q
some_factor zero g d e h = absurd (omega (arith, e, h))
some_factor (suc q) g d e h = omega arith

pub reduced : (n : ℤ) (d : ℕ) → 0 < d → d < 2 ^ 127 → IsNarrow n → (r : Ratio) × IsOver r n d
reduced n d some small narrow =
    let found = gcd_of (suc d) (unsigned_abs n) d (omega arith) in
    let g : ℕ = found.0 in
    let is : IsGcd (unsigned_abs n) d g = found.1 in
    let g_some : 0 < g = pos_of_dvd_of_pos is.1 some in
    let apart : pos g ≢ pos 0 = λ e. let none : g ≡ 0 = omega (arith, ints, e) in omega (arith, none, g_some) in
    let q : ℕ = d / g in
    let q_is : q * g ≡ d = mul_comm q g ∙ mul-div_cancel' g is.1 in
    let n_is : (unsigned_abs n / g) * g ≡ unsigned_abs n = mul_comm (unsigned_abs n / g) g ∙ mul-div_cancel' g is.0 in
    let p = signed n (unsigned_abs n / g) g n_is in
    let sizes : unsigned_abs p.0 * g ≡ unsigned_abs n = sym (unsigned_abs-mul p.0 (pos g)) ∙ ap unsigned_abs p.1 in
    let q_whole : pos q *ℤ pos g ≡ pos d = ap (λ (z : ℕ). pos z) q_is in
    let p_small : unsigned_abs p.0 ≤ unsigned_abs n = factor_below p.0 (pos g) n p.1 apart in
    let q_small : q ≤ d = factor_below (pos q) (pos g) (pos d) q_whole apart in
    let q_some : 0 < q = some_factor q g d q_is some in (
      record {
        num = p.0;
        den = pos q;
        lowest = record {
          positive = omega (arith, ints, q_some);
          num_narrow = omega (arith, p_small, narrow);
          den_narrow = omega (arith, q_small, small);
          coprime = IsCoprime-over_gcd (unsigned_abs n) d g (unsigned_abs p.0) q is g_some sizes q_is;
        };
      },
      record { positive = some; same = crossed n p.0 (pos q) (pos g) (pos d) p.1 q_whole },
    )
