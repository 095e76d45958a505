-- Exact numbers, as fractions of whole numbers. Nothing is reduced and nothing has a width here.
use Rattle.std.proofs.Common.{arith}
use Rattle.std.proofs.Math.Nat.{mul-pos}
use Rattle.std.proofs.lemmas.Int.{ints}
use Rattle.std.specs.Prelude.{◌≡◌, ◌≢◌, ℕ, ℤ, pos, neg_ℤ, ◌+ℤ◌, ◌*ℤ◌, ◌<ℤ◌, ◌*◌, ◌<◌, unsigned_abs}

-- a numerator over a positive denominator
pub record Fraction : Type 0 where
  pub num : ℤ
  pub den : ℕ
  pub positive : 0 < den

-- a positive number is so in magnitude
pub unsigned_abs_pos : (z : ℤ) → pos 0 <ℤ z → 0 < unsigned_abs z
unsigned_abs_pos z p = omega (arith, ints)

-- n over a positive d
abbrev pub over : (n d : ℤ) → pos 0 <ℤ d → Fraction
over n d p = record { num = n; den = unsigned_abs d; positive = unsigned_abs_pos d p }

pub one_positive : 0 < 1
one_positive = omega arith

-- the whole number n
abbrev pub whole : ℤ → Fraction
whole n = record { num = n; den = 1; positive = one_positive }

-- x and y are the same number
pub record SameNumber (x y : Fraction) : Type 0 where
  pub cross : x.num *ℤ pos y.den ≡ y.num *ℤ pos x.den

-- x is a lesser number than y
pub record IsBelow (x y : Fraction) : Type 0 where
  pub cross : (x.num *ℤ pos y.den) <ℤ (y.num *ℤ pos x.den)

-- - x
abbrev pub neg_of : Fraction → Fraction
neg_of x = record { num = neg_ℤ x.num; den = x.den; positive = x.positive }

-- x + y
abbrev pub sum_of : Fraction → Fraction → Fraction
sum_of x y = record {
  num = x.num *ℤ pos y.den +ℤ y.num *ℤ pos x.den;
  den = x.den * y.den;
  positive = mul-pos x.positive y.positive;
}

-- x - y
abbrev pub difference_of : Fraction → Fraction → Fraction
difference_of x y = sum_of x (neg_of y)

-- x * y
abbrev pub product_of : Fraction → Fraction → Fraction
product_of x y = record {
  num = x.num *ℤ y.num;
  den = x.den * y.den;
  positive = mul-pos x.positive y.positive;
}

-- q is x / y, where y is not 0: q times y is x
pub record IsQuotient (q x y : Fraction) : Type 0 where
  pub some : y.num ≢ pos 0
  pub back : SameNumber (product_of q y) x

-- x is n / d, in any terms
pub record IsNumberOver (x : Fraction) (n : ℤ) (d : ℕ) : Type 0 where
  pub positive : 0 < d
  pub cross : x.num *ℤ pos d ≡ n *ℤ pos x.den

-- p / c is the product of n / d and m / e
pub record IsProductOver (n : ℤ) (d : ℕ) (m : ℤ) (e : ℕ) (p : ℤ) (c : ℕ) : Type 0 where
  pub positive : 0 < c
  pub cross : p *ℤ pos (d * e) ≡ (n *ℤ m) *ℤ pos c

-- p / c is n / d over m / e: p / c times m / e is n / d
pub record IsQuotientOver (n : ℤ) (d : ℕ) (m : ℤ) (e : ℕ) (p : ℤ) (c : ℕ) : Type 0 where
  pub positive : 0 < c
  pub cross : (p *ℤ m) *ℤ pos d ≡ n *ℤ pos (c * e)
