-- The refutation of a conflict: how often each variable counts in it, and what it adds up to.
use Rattle.std.specs.Prelude.{◌≡◌, ◌≢◌, ℕ, ◌+◌, ◌<◌, ◌==◌, Bool, true, false, if◌then◌else◌, pos, negsuc, neg_ℤ, ℤ, ◌+ℤ◌, ◌*ℤ◌, ◌<ℤ◌, List, length, All, IsTrue}
use Rattle.std.specs.List.{list_any}
use Rattle.xc_model.specs.Parts.{WholeParts}
use Rattle.xc_model.specs.Ratio.{Ratio, IsOver}
use Rattle.xc_corners.specs.Answers.{AreListed}
use Rattle.xc_corners.specs.Corners.{Corner, Factors, low_bound, high_bound}
use Rattle.xc_corners.specs.Pairs.{◌≺◌, sum_below, zero_pair}
use Rattle.xc_corners.specs.Problems.{WholeProblem, row_at, total, unit_at}
use Rattle.xc_corners.specs.declared.multipliers.Multipliers.{Multipliers}

-- f, or - f
abbrev pub opposite_if : Bool → ℤ → ℤ
opposite_if false f = f
opposite_if true f = neg_ℤ f

-- How often a variable counts in the refutation of a conflict at b below its low bound, times `over`: b itself once, and each variable
-- that is not basic minus its factor in the sum for b. Above the high bound all is turned round.
unfoldable pub multiplier : Corner → Factors → Bool → ℕ → ℕ → ℤ
multiplier x t above b j = opposite_if above (if j == b then pos t.over else (if x.basic j then pos 0 else neg_ℤ (t.factor b j)))

-- A range that counts positively stands with its low end, and one that counts negatively with its high end.
abbrev pub end_of : ℤ → WholeParts → WholeParts → WholeParts
end_of (pos n) low high = low
end_of (negsuc n) low high = high

-- the end of range j, by its count
abbrev pub named_end : WholeProblem → (ℕ → ℤ) → ℕ → WholeParts
named_end p m j = end_of (m j) (low_bound p j) (high_bound p j)

-- the coefficient of range j where variables count m, times `scale`: its own count, and that of each row times its weights there
unfoldable pub whole_coefficient : WholeProblem → (ℕ → ℤ) → ℕ → ℤ
whole_coefficient p m j = pos p.scale *ℤ m j +ℤ sum_below (length p.rows) (λ i. m (length p.ranges + i) *ℤ total (row_at p i) (unit_at j))

-- the constant, times `unit`: minus count times end over the ranges. Open ends give its tiny part
unfoldable pub whole_constant : WholeProblem → (ℕ → ℤ) → WholeParts
whole_constant p m = record {
  real = sum_below (length p.ranges) (λ j. neg_ℤ (m j) *ℤ (named_end p m j).real);
  tiny = sum_below (length p.ranges) (λ j. neg_ℤ (m j) *ℤ (named_end p m j).tiny);
}

-- no range has a coefficient, and the constant is below 0
pub record Refutes (p : WholeProblem) (m : ℕ → ℤ) : Type 0 where
  pub cancels : (j : ℕ) → j < length p.ranges → whole_coefficient p m j ≡ pos 0
  pub short : whole_constant p m ≺ zero_pair

-- ---- The refutation as it is listed.

-- a count of a row that is listed: it is not 0
abbrev pub IsNonzero : ℤ → Type 0
IsNonzero z = z ≢ pos 0

-- a count of an end that is listed: it is positive
abbrev pub IsPositive : ℤ → Type 0
IsPositive z = pos 0 <ℤ z

-- the lines have the numbers below n whose count is listed, ascending, and with each its count over d
pub record AreLinesOf (n : ℕ) (count : ℕ → ℤ) (Counts : ℤ → Type 0) (d : ℕ) (lines : List (ℕ × Ratio)) : Type 0 where
  pub listed : AreListed n lines
  pub each : All (λ line. Counts (count line.0) × IsOver line.1 (count line.0) d) lines
  pub all : (j : ℕ) → j < n → Counts (count j) → IsTrue (list_any (λ line. line.0 == j) lines)

-- the multipliers list the counts m over d: rows, ranges that count positively, ranges that count negatively
pub record AreMultipliersOf (p : WholeProblem) (m : ℕ → ℤ) (d : ℕ) (ms : Multipliers) : Type 0 where
  pub rows : AreLinesOf (length p.rows) (λ i. m (length p.ranges + i)) IsNonzero d ms.rows
  pub lows : AreLinesOf (length p.ranges) m IsPositive d ms.lows
  pub highs : AreLinesOf (length p.ranges) (λ j. neg_ℤ (m j)) IsPositive d ms.highs

-- they are those of the conflict at b
abbrev pub AreOfConflict : WholeProblem → Corner → Factors → Bool → ℕ → Multipliers → Type 0
AreOfConflict p x t above b ms = AreMultipliersOf p (multiplier x t above b) t.over ms
