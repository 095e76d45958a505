-- Numbers with an infinitely small part: real + tiny e, where e is positive, and less than every other positive number.
use Rattle.std.specs.Prelude.{◌≡◌, ℕ, ℤ, pos, neg_ℤ, ◌+ℤ◌, ◌<ℤ◌, ◌<◌, ◌^◌, ◌⊎◌}
use Rattle.std.specs.Ordering.{MatchOrdering}
use Rattle.std.specs.declared.cmp.Ordering.{Ordering}
use Rattle.xc_model.specs.Fraction.{Fraction, whole, SameNumber, IsBelow, IsNumberOver, IsProductOver, IsQuotientOver, neg_of, sum_of, product_of}
use Rattle.xc_model.specs.Width.{IsNarrow, SumFits}

-- a real part and a tiny part
pub record Parts : Type 0 where
  pub real : Fraction
  pub tiny : Fraction

-- a number with no tiny part
abbrev pub real_alone : Fraction → Parts
real_alone x = record { real = x; tiny = whole (pos 0) }

-- x and y are the same pair
pub record SameParts (x y : Parts) : Type 0 where
  pub real : SameNumber x.real y.real
  pub tiny : SameNumber x.tiny y.tiny

-- x is less than y: in the real part, or where the real parts are the same, in the tiny part
abbrev pub IsLess : Parts → Parts → Type 0
IsLess x y = IsBelow x.real y.real ⊎ (SameNumber x.real y.real × IsBelow x.tiny y.tiny)

-- o is how the pairs x and y compare
abbrev pub OrdersParts : Ordering → Parts → Parts → Type 0
OrdersParts o x y = MatchOrdering o (IsLess x y) (SameParts x y) (IsLess y x)

-- 0
abbrev pub zero_parts : Parts
zero_parts = real_alone (whole (pos 0))

-- - x
abbrev pub neg_parts : Parts → Parts
neg_parts x = record { real = neg_of x.real; tiny = neg_of x.tiny }

-- x + y
abbrev pub sum_parts : Parts → Parts → Parts
sum_parts x y = record { real = sum_of x.real y.real; tiny = sum_of x.tiny y.tiny }

-- x - y
abbrev pub difference_parts : Parts → Parts → Parts
difference_parts x y = sum_parts x (neg_parts y)

-- x times the number k
abbrev pub scaled_parts : Parts → Fraction → Parts
scaled_parts x k = record { real = product_of x.real k; tiny = product_of x.tiny k }

-- the real parts of two values, as a pair
abbrev pub pair_of : {K : Type 0} → (K → Parts) → K → K → Parts
pair_of parts x t = record { real = (parts x).real; tiny = (parts t).real }

-- two whole numbers, for a real and a tiny part over one denominator
pub record WholeParts : Type 0 where
  pub real : ℤ
  pub tiny : ℤ

-- the parts of x are those whole numbers over d
pub record ArePartsOver (x : Parts) (a : WholeParts) (d : ℕ) : Type 0 where
  pub real : IsNumberOver x.real a.real d
  pub tiny : IsNumberOver x.tiny a.tiny d

-- a whole number with no tiny part
abbrev pub whole_alone : ℤ → WholeParts
whole_alone n = record { real = n; tiny = pos 0 }

-- - a
abbrev pub whole_neg : WholeParts → WholeParts
whole_neg a = record { real = neg_ℤ a.real; tiny = neg_ℤ a.tiny }

-- a + b
abbrev pub whole_sum : WholeParts → WholeParts → WholeParts
whole_sum a b = record { real = a.real +ℤ b.real; tiny = a.tiny +ℤ b.tiny }

-- a - b
abbrev pub whole_difference : WholeParts → WholeParts → WholeParts
whole_difference a b = whole_sum a (whole_neg b)

-- a is less than b: in the real part, or where these are equal, in the tiny part
abbrev pub IsLessWhole : WholeParts → WholeParts → Type 0
IsLessWhole a b = (a.real <ℤ b.real) ⊎ ((a.real ≡ b.real) × (a.tiny <ℤ b.tiny))

-- o is how a and b compare
abbrev pub OrdersWhole : Ordering → WholeParts → WholeParts → Type 0
OrdersWhole o a b = MatchOrdering o (IsLessWhole a b) (a ≡ b) (IsLessWhole b a)

-- over d, the parts of a and of b fit, and so do their sums
pub record PartsFit (a b : WholeParts) (d : ℕ) : Type 0 where
  pub real : SumFits a.real b.real d
  pub tiny : SumFits a.tiny b.tiny d

-- both parts fit over d
pub record AreNarrowParts (a : WholeParts) (d : ℕ) : Type 0 where
  pub den : d < 2 ^ 127
  pub real : IsNarrow a.real
  pub tiny : IsNarrow a.tiny

-- the parts of p over c are m / e times those of a over d
pub record ArePartsTimes (m : ℤ) (e : ℕ) (a : WholeParts) (d : ℕ) (p : WholeParts) (c : ℕ) : Type 0 where
  pub real : IsProductOver m e a.real d p.real c
  pub tiny : IsProductOver m e a.tiny d p.tiny c

-- the parts of p over c are those of a over d, each over m / e
pub record ArePartsBy (a : WholeParts) (d : ℕ) (m : ℤ) (e : ℕ) (p : WholeParts) (c : ℕ) : Type 0 where
  pub real : IsQuotientOver a.real d m e p.real c
  pub tiny : IsQuotientOver a.tiny d m e p.tiny c
