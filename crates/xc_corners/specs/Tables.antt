-- The factors of solved forms: those of the first corner, and those of the next one.
use Rattle.std.specs.Prelude.{ℕ, ◌-◌, ◌*◌, if◌then◌else◌, ◌==◌, length, ℤ, pos, negsuc, neg_ℤ, ◌-ℤ◌, ◌*ℤ◌, unsigned_abs}
use Rattle.xc_corners.specs.Corners.{Factors}
use Rattle.xc_corners.specs.Problems.{WholeProblem, total, unit_at, row_at}

-- -1 for a negative number, and else 1
abbrev pub sign : ℤ → ℤ
sign (pos n) = pos 1
sign (negsuc n) = negsuc 0

-- at the first corner: in the sum of a row, a variable has all its weights there
unfoldable pub first_factors : WholeProblem → Factors
first_factors p = record { factor = λ b j. total (row_at p (b - length p.ranges)) (unit_at j); over = p.scale }

-- after the exchange of b and q: the sum for b solved for q, and put into the other sums
unfoldable pub factors_after_exchange : Factors → ℕ → ℕ → Factors
factors_after_exchange t b q = record {
  factor = λ k j. sign (t.factor b q) *ℤ
      (if k == q
      then (if j == b then pos t.over *ℤ pos t.over else neg_ℤ (pos t.over *ℤ t.factor b j))
      else (if j == b then t.factor k q *ℤ pos t.over else t.factor b q *ℤ t.factor k j -ℤ t.factor k q *ℤ t.factor b j));
  over = unsigned_abs (t.factor b q) * t.over;
}
