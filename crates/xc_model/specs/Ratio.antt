-- Numbers as 128-bit fractions hold them.
use Rattle.std.specs.Prelude.{◌≡◌, ℕ, ℤ, pos, ◌*ℤ◌, ◌<ℤ◌, ◌<◌, unsigned_abs}
use Rattle.xc_model.specs.Divisors.{IsCoprime}
use Rattle.xc_model.specs.Fraction.{Fraction, over}
use Rattle.xc_model.specs.Width.{IsNarrow}

-- num over den is in lowest terms, and both are narrow
pub record IsLowest (num den : ℤ) : Type 0 where
  pub positive : pos 0 <ℤ den
  pub num_narrow : IsNarrow num
  pub den_narrow : IsNarrow den
  pub coprime : IsCoprime (unsigned_abs num) (unsigned_abs den)

-- a number in lowest terms that fits
pub record Ratio : Type 0 where
  pub num : ℤ
  pub den : ℤ
  pub lowest : IsLowest num den

-- the number that it is
abbrev pub fraction_of : Ratio → Fraction
fraction_of f = over f.num f.den f.lowest.positive

-- f is n / d, not reduced
pub record IsOver (f : Ratio) (n : ℤ) (d : ℕ) : Type 0 where
  pub positive : 0 < d
  pub same : f.num *ℤ pos d ≡ n *ℤ f.den
