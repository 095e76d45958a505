-- Decimal numbers in their shortest form, and not wide.
use Rattle.std.proofs.Common.{lit<}
use Rattle.std.proofs.Math.Nat.{one-le-pow}
use Rattle.std.specs.Prelude.{◌≡◌, ℕ, ℤ, ◌^◌, ◌%◌, ◌≤◌, ◌<◌, ◌⊎◌, unsigned_abs}
use Rattle.xc_model.specs.Fraction.{Fraction}

-- digits over 10 ^ places is not wide, and has no trailing zero among its places; 0 has no places
pub record IsShortest (digits : ℤ) (places : ℕ) : Type 0 where
  pub digits_narrow : unsigned_abs digits ≤ 2 ^ 126
  pub places_narrow : places ≤ 37
  pub shortest : unsigned_abs digits % 10 ≡ 0 → places ≡ 0

-- a decimal number that fits, in its shortest form
pub record Shortest : Type 0 where
  pub digits : ℤ
  pub places : ℕ
  pub shortest : IsShortest digits places

-- the digits exceed 2 ^ 126 in magnitude, or the places exceed 37
abbrev pub IsWideDecimal : ℤ → ℕ → Type 0
IsWideDecimal digits places = (2 ^ 126 < unsigned_abs digits) ⊎ (37 < places)

pub ten_positive : (places : ℕ) → 0 < 10 ^ places
ten_positive places = one-le-pow places 10 (lit< tt)

-- digits / 10 ^ places
abbrev pub tenths : ℤ → ℕ → Fraction
tenths digits places = record { num = digits; den = 10 ^ places; positive = ten_positive places }

-- the number that it is
abbrev pub decimal_number : Shortest → Fraction
decimal_number d = tenths d.digits d.places
