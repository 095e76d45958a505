-- Ends over a common denominator, their sizes there, and numbers that stay at the end of 128 bits.
use Rattle.std.specs.Prelude.{ℕ, ◌-◌, ◌*◌, ◌/◌, ◌^◌, ◌<◌, ◌≤◌, ◌↔◌, min, max, unsigned_abs}
use Prim.Native.Nat.{◌∣◌}
use Rattle.xc_interval.specs.Ends.{value_of}
use Rattle.xc_interval.specs.declared.interval.Interval.{Interval}
use Rattle.xc_interval.specs.declared.range.Range.{Range}
use Rattle.xc_interval.specs.declared.range.Range.TheVariants as range
use Rattle.xc_model.specs.Ratio.{Ratio}

-- the denominator of a number divides d
abbrev pub IsOnScale : ℕ → Ratio → Type 0
IsOnScale d x = unsigned_abs x.den ∣ d

-- the denominators of both ends divide d
abbrev pub HasEndsOnScale : ℕ → Interval Ratio → Type 0
HasEndsOnScale d i = IsOnScale d (value_of i.low) × IsOnScale d (value_of i.high)

-- the denominators of both ends of a range divide d, where it has ends
abbrev pub AreOnScale : ℕ → Range → Type 0
AreOnScale d (range.Meets i) = HasEndsOnScale d i
AreOnScale d range.Empty = Unit {0}
AreOnScale d range.Wide = Unit {0}

-- the magnitude of a number whose denominator divides d, times d
abbrev pub size_of : ℕ → Ratio → ℕ
size_of d x = unsigned_abs x.num * (d / unsigned_abs x.den)

-- the greater magnitude of the two ends, times d
abbrev pub greatest_end : ℕ → Interval Ratio → ℕ
greatest_end d i = max (size_of d (value_of i.low)) (size_of d (value_of i.high))

-- the greater magnitude of the two ends of a range, times d; 0 where it has none
abbrev pub greatest : ℕ → Range → ℕ
greatest d (range.Meets i) = greatest_end d i
greatest d range.Empty = 0
greatest d range.Wide = 0

-- n, or the greatest 128-bit number where it is less
abbrev pub saturated : ℕ → ℕ
saturated n = min n (2 ^ 128 - 1)

-- l is the least multiple of d with a property that its multiples share: exactly the multiples of l are multiples of d with it
pub record IsMultipleOf (d : ℕ) (P : ℕ → Type 0) (l : ℕ) : Type 0 where
  pub positive : 0 < l
  pub tells : (m : ℕ) → (l ∣ m) ↔ ((d ∣ m) × P m)

-- no positive number below 2^128 is a multiple of d with the property
abbrev pub IsNoneBelow : (d : ℕ) (P : ℕ → Type 0) → Type 0
IsNoneBelow d P = (m : ℕ) → 0 < m → d ∣ m → P m → 2 ^ 128 ≤ m
