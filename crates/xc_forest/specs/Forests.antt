-- Forests: ranges of values, and rows of signed sums over them that have no cycle; what solves them and what contradicts them.
use Rattle.std.specs.Prelude.{◌≡◌, ℕ, zero, suc, ◌+◌, ◌<◌, ◌⊎◌, ◌==◌, if◌then◌else◌, Bool, true, false, ℤ, pos, negsuc, neg_ℤ, ◌+ℤ◌, ◌*ℤ◌, List, [], ◌∷◌, map, length, slice_index_or}
use Rattle.xc_frac.specs.declared.wide.Op.{Op}
use Rattle.xc_frac.specs.declared.wide.Op.TheVariants.{Add, Sub}
use Rattle.xc_frac.specs.declared.wide.Wide.{Wide}
use Rattle.xc_interval.specs.Ends.{value_of, is_open}
use Rattle.xc_interval.specs.Intervals.{pairs_of, HasPair, HasNoPair}
use Rattle.xc_interval.specs.declared.ends.End.TheVariants.{Closed}
use Rattle.xc_interval.specs.declared.interval.Interval.{Interval}
use Rattle.xc_model.specs.Parts.{Parts, SameParts, IsLess, zero_parts, neg_parts, sum_parts}
use Rattle.xc_lists.specs.Members.{IsIn, IsOnce}

-- ---- rows: points with their signs, true for a minus sign

-- the points of a row
abbrev pub points_of : List (ℕ × Bool) → List ℕ
points_of row = map (λ entry. entry.0) row

-- row i; no points where there is none
abbrev pub row_at : List (List (ℕ × Bool)) → ℕ → List (ℕ × Bool)
row_at rows i = slice_index_or rows i []

module _ (n : ℕ) (rows : List (List (ℕ × Bool))) where
  -- every row names some of n points, each once
  abbrev pub AreRows : Type 0
  AreRows = (i : ℕ) → i < length rows → ((p : ℕ) → IsIn p (points_of (row_at rows i)) → p < n) × IsOnce (points_of (row_at rows i))

  -- The points and the rows are vertices of a graph: the points are vertices 0 to n - 1, and row i is vertex n + i.

  -- vertex v is a row that has the point p
  abbrev pub IsPointOf : ℕ → ℕ → Type 0
  IsPointOf p v = (i : ℕ) × (v ≡ n + i) × (i < length rows) × IsIn p (points_of (row_at rows i))

  -- a point stands next to the rows that have it
  abbrev pub IsNext : ℕ → ℕ → Type 0
  IsNext u v = IsPointOf u v ⊎ IsPointOf v u

  -- each of these vertices stands next to at most one later one
  abbrev pub IsThin : List ℕ → Type 0
  IsThin [] = Unit {0}
  IsThin (v ∷ vs) = ((u w : ℕ) → IsIn u vs → IsIn w vs → IsNext v u → IsNext v w → u ≡ w) × IsThin vs

  -- the graph has no cycle: its vertices can be listed, so that each stands next to at most one later one
  pub record HasNoCycle : Type 0 where
    pub listing : List ℕ
    pub listed : (v : ℕ) → v < n + length rows → IsIn v listing
    pub thin : IsThin listing

-- ---- ranges

-- the ranges, with what their ends stand for
abbrev pub ranges_of : {E : Type 0} → (E → Parts) → List (Interval E) → List (Interval Parts)
ranges_of parts ranges = map (λ range. pairs_of parts range) ranges

-- range p; that of 0 alone where there is none
abbrev pub range_at : List (Interval Parts) → ℕ → Interval Parts
range_at ranges p = slice_index_or ranges p (record { low = Closed zero_parts; high = Closed zero_parts })

-- each range has both its ends, and some value
abbrev pub AreRanges : List (Interval Parts) → Type 0
AreRanges ranges = (p : ℕ) → p < length ranges → (is_open (range_at ranges p).low ≡ false) × (is_open (range_at ranges p).high ≡ false) × (¬ HasNoPair (range_at ranges p))

-- the low end (false) or the high end (true)
abbrev pub end_of : Bool → Interval Parts → Parts
end_of false range = value_of range.low
end_of true range = value_of range.high

-- which end of a range stands in a signed sum, and with which sign
pub data Choice : Type 0 where
  Neither : Choice
  Plus : Bool → Choice
  Minus : Bool → Choice

-- that end with its sign
abbrev pub worth_of : Choice → Interval Parts → Parts
worth_of Neither range = zero_parts
worth_of (Plus e) range = end_of e range
worth_of (Minus e) range = neg_parts (end_of e range)

-- f 0 + .. + f (n - 1)
abbrev pub parts_below : ℕ → (ℕ → Parts) → Parts
parts_below zero f = zero_parts
parts_below (suc n) f = sum_parts (parts_below n f) (f n)

-- x is a signed sum: it adds or subtracts ends, at most one of each range
pub record IsSignedSum (ranges : List (Interval Parts)) (x : Parts) : Type 0 where
  pub choice : ℕ → Choice
  pub is : SameParts x (parts_below (length ranges) (λ p. worth_of (choice p) (range_at ranges p)))

-- no sum of two signed sums passes, and no difference
abbrev pub HasRoom : {E : Type 0} → (E → Parts) → (Op → E → E → Wide → Type 0) → List (Interval Parts) → Type 0
HasRoom {E} parts passes ranges = (x y : E) → IsSignedSum ranges (parts x) → IsSignedSum ranges (parts y) → (w : Wide) → (¬ passes Add x y w) × (¬ passes Sub x y w)

-- ---- solutions

-- x, or - x
abbrev pub parts_with_sign : Bool → Parts → Parts
parts_with_sign false x = x
parts_with_sign true x = neg_parts x

-- the signed sum of a row over the values of its points
abbrev pub row_total : List (ℕ × Bool) → (ℕ → Parts) → Parts
row_total [] z = zero_parts
row_total (entry ∷ row) z = sum_parts (parts_with_sign entry.1 (z entry.0)) (row_total row z)

-- value p; 0 where there is none
abbrev pub value_at : List Parts → ℕ → Parts
value_at values p = slice_index_or values p zero_parts

-- one value for each range, which lies in it; the sum of each row is 0; and each value is a signed sum
pub record Solves (rows : List (List (ℕ × Bool))) (ranges : List (Interval Parts)) (values : List Parts) : Type 0 where
  pub each : length values ≡ length ranges
  pub within : (p : ℕ) → p < length ranges → HasPair (range_at ranges p) (value_at values p)
  pub met : (i : ℕ) → i < length rows → SameParts (row_total (row_at rows i) (value_at values)) zero_parts
  pub signed_sums : (p : ℕ) → p < length ranges → IsSignedSum ranges (value_at values p)

-- ---- contradictions

-- 1, -1 or 0
abbrev pub IsUnit : ℤ → Type 0
IsUnit k = (k ≡ pos 0) ⊎ ((k ≡ pos 1) ⊎ (k ≡ negsuc 0))

-- k, or - k
abbrev pub number_with_sign : Bool → ℤ → ℤ
number_with_sign false k = k
number_with_sign true k = neg_ℤ k

-- f 0 + .. + f (n - 1)
abbrev pub sum_below : ℕ → (ℕ → ℤ) → ℤ
sum_below zero f = pos 0
sum_below (suc n) f = sum_below n f +ℤ f n

-- the signed sum of a row over whole numbers
abbrev pub row_sum : List (ℕ × Bool) → (ℕ → ℤ) → ℤ
row_sum [] x = pos 0
row_sum (entry ∷ row) x = number_with_sign entry.1 (x entry.0) +ℤ row_sum row x

-- 1 at p, and 0 elsewhere
abbrev pub unit_at : ℕ → ℕ → ℤ
unit_at p q = if q == p then pos 1 else pos 0

-- the multiplier with this number; 0 where there is none
abbrev pub multiplier_at : List ℤ → ℕ → ℤ
multiplier_at multipliers i = slice_index_or multipliers i (pos 0)

-- what an end's multiplier adds: 1 the low end, -1 the negative of the high end, 0 nothing
abbrev pub named_end : ℤ → Interval Parts → Parts
named_end (pos zero) range = zero_parts
named_end (pos (suc k)) range = value_of range.low
named_end (negsuc k) range = neg_parts (value_of range.high)

-- Multipliers of rows and of ends contradict: a multiplier of an end is 1 for the low one, -1 for the high one and 0 for neither. In the
-- sum over all of multiplier times row, of value for each low end and of - value for each high end, no value counts; and the low ends
-- less the high ends are more than 0. What lies in the ranges and meets the rows would make them 0 at most.
pub record Contradicts (rows : List (List (ℕ × Bool))) (ranges : List (Interval Parts)) (by ends : List ℤ) : Type 0 where
  pub each_row : length by ≡ length rows
  pub each_end : length ends ≡ length ranges
  pub row_units : (i : ℕ) → IsUnit (multiplier_at by i)
  pub end_units : (p : ℕ) → IsUnit (multiplier_at ends p)
  pub cancels : (p : ℕ) → p < length ranges → multiplier_at ends p +ℤ sum_below (length rows) (λ i. row_sum (row_at rows i) (unit_at p) *ℤ multiplier_at by i) ≡ pos 0
  pub positive : IsLess zero_parts (parts_below (length ranges) (λ p. named_end (multiplier_at ends p) (range_at ranges p)))
