-- Which numbers a reported fact may stand for (Calculations 1.1: the interval of a fact's value in each mode; the open ends
-- are this project's own). All is said over whole numbers: the fact's value is digits / 10 ^ places, the number is p / q.
use Rattle.std.specs.Prelude.{◌≡◌, ℕ, ℤ, zero, suc, pos, negsuc, neg_ℤ, ◌-ℤ◌, ◌*ℤ◌, ◌*◌, ◌^◌, ◌<◌, ◌≤◌, ◌≤ℤ◌, unsigned_abs, Option, Some, None}
use Rattle.xc_interval.specs.declared.mode.Mode.{Mode}
use Rattle.xc_interval.specs.declared.mode.Mode.TheVariants.{Rounding, Truncation}

-- 10 ^ d for a d that is positive, and else 1
abbrev pub ten_to : ℤ → ℕ
ten_to (pos d) = 10 ^ d
ten_to (negsuc d) = 1

-- p/q less digits / 10 ^ places, times both denominators
abbrev pub excess : (digits : ℤ) (places : ℕ) (p : ℤ) (q : ℕ) → ℤ
excess digits places p q = p *ℤ pos (10 ^ places) -ℤ digits *ℤ pos q

-- one unit of the place of d decimals, on the same scale, where an excess stands for 10 ^ d of them if d is positive
abbrev pub unit : (d : ℤ) (places q : ℕ) → ℕ
unit d places q = ten_to (neg_ℤ d) * 10 ^ places * q

-- rounding: at most half a unit of the place away, |x - v| <= 10^-d / 2
abbrev pub IsRounded : (d digits : ℤ) (places : ℕ) (p : ℤ) (q : ℕ) → Type 0
IsRounded d digits places p q = 2 * ten_to d * unsigned_abs (excess digits places p q) ≤ unit d places q

-- truncation: v <= x < v + 10^-d for a positive v, v - 10^-d < x <= v for a negative one, and |x| < 10^-d for 0
abbrev pub IsTruncated : (d digits : ℤ) (places : ℕ) (p : ℤ) (q : ℕ) → Type 0
IsTruncated d (pos zero) places p q = ten_to d * unsigned_abs (excess (pos zero) places p q) < unit d places q
IsTruncated d (pos (suc n)) places p q =
    (pos 0 ≤ℤ excess (pos (suc n)) places p q) × (ten_to d * unsigned_abs (excess (pos (suc n)) places p q) < unit d places q)
IsTruncated d (negsuc n) places p q =
    (excess (negsuc n) places p q ≤ℤ pos 0) × (ten_to d * unsigned_abs (excess (negsuc n) places p q) < unit d places q)

-- a fact with these decimals may stand for p/q; with no decimals it is exact
abbrev pub Admits : Mode → Option ℤ → (digits : ℤ) (places : ℕ) (p : ℤ) (q : ℕ) → Type 0
Admits mode None digits places p q = excess digits places p q ≡ pos 0
Admits Rounding (Some d) digits places p q = IsRounded d digits places p q
Admits Truncation (Some d) digits places p q = IsTruncated d digits places p q
