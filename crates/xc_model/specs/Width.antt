-- What fits 128 bits, and where exact arithmetic passes them.
use Rattle.std.specs.Prelude.{◌≡◌, ℕ, ℤ, pos, ◌+ℤ◌, ◌*ℤ◌, ◌<◌, ◌≤◌, ◌^◌, ◌⊎◌, unsigned_abs}
use Rattle.xc_model.specs.Divisors.{IsCoprime, IsLeastCommon}
use Rattle.xc_model.specs.Fraction.{Fraction, SameNumber, neg_of, product_of, IsQuotient}

-- at most 2 ^ 127 - 1 in magnitude
abbrev pub IsNarrow : ℤ → Type 0
IsNarrow z = unsigned_abs z < 2 ^ 127

-- more than that
abbrev pub IsWide : ℤ → Type 0
IsWide z = 2 ^ 127 ≤ unsigned_abs z

-- over their least common denominator l, the fractions x and y have the numerators p and q
pub record Meets (x y : Fraction) (l : ℕ) (p q : ℤ) : Type 0 where
  pub common : IsLeastCommon x.den y.den l
  pub left : p *ℤ pos x.den ≡ x.num *ℤ pos l
  pub right : q *ℤ pos y.den ≡ y.num *ℤ pos l

-- a sum passes: the least common denominator, a numerator over it, or the sum of the two is wide
pub record SumPasses (x y : Fraction) : Type 0 where
  pub den : ℕ
  pub left : ℤ
  pub right : ℤ
  pub meets : Meets x y den left right
  pub wide : IsWide (pos den) ⊎ (IsWide left ⊎ (IsWide right ⊎ IsWide (left +ℤ right)))

-- a difference passes where the sum with the negative does
abbrev pub DifferencePasses : Fraction → Fraction → Type 0
DifferencePasses x y = SumPasses x (neg_of y)

-- a numerator and a denominator without a common factor, one of them wide
pub record IsWideLowest (x : Fraction) : Type 0 where
  pub coprime : IsCoprime (unsigned_abs x.num) x.den
  pub wide : IsWide x.num ⊎ IsWide (pos x.den)

-- a product passes: in lowest terms it is wide
pub record ProductPasses (x y : Fraction) : Type 0 where
  pub lowest : Fraction
  pub same : SameNumber lowest (product_of x y)
  pub wide : IsWideLowest lowest

-- a quotient passes: in lowest terms it is wide
pub record QuotientPasses (x y : Fraction) : Type 0 where
  pub lowest : Fraction
  pub same : IsQuotient lowest x y
  pub wide : IsWideLowest lowest

-- over d, two numerators and their sum fit
pub record SumFits (n m : ℤ) (d : ℕ) : Type 0 where
  pub den : d < 2 ^ 127
  pub left : IsNarrow n
  pub right : IsNarrow m
  pub sum : IsNarrow (n +ℤ m)
