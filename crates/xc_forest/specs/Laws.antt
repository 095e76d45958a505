-- What follows from the definitions for all forests.
use Rattle.std.specs.Prelude.{ℕ, zero, suc, ◌+◌, ◌*◌, ◌<◌, ◌≤◌, ◌^◌, Bool, ℤ, List, length, unsigned_abs}
use Rattle.xc_forest.specs.Forests.{AreRows, Contradicts, HasRoom, parts_below, range_at, row_at, row_total, sum_below}
use Rattle.xc_frac.specs.declared.wide.Op.{Op}
use Rattle.xc_frac.specs.declared.wide.Wide.{Wide}
use Rattle.xc_interval.specs.Ends.{value_of}
use Rattle.xc_interval.specs.Intervals.{HasPair}
use Rattle.xc_interval.specs.declared.interval.Interval.{Interval}
use Rattle.xc_model.specs.Parts.{Parts, SameParts, WholeParts, ArePartsOver, zero_parts}

-- f 0 + .. + f (n - 1)
abbrev pub count_below : ℕ → (ℕ → ℕ) → ℕ
count_below zero f = 0
count_below (suc n) f = count_below n f + f n

-- both parts are no greater in magnitude
pub record IsAtMostSize (real tiny : ℕ) (a : WholeParts) : Type 0 where
  pub in_real : unsigned_abs a.real ≤ real
  pub in_tiny : unsigned_abs a.tiny ≤ tiny

-- over d, the ends of range p are whole numbers of at most these magnitudes
pub record AreSized (d : ℕ) (ranges : List (Interval Parts)) (real tiny : ℕ → ℕ) : Type 0 where
  pub low : ℕ → WholeParts
  pub high : ℕ → WholeParts
  pub low_over : (p : ℕ) → p < length ranges → ArePartsOver (value_of (range_at ranges p).low) (low p) d
  pub high_over : (p : ℕ) → p < length ranges → ArePartsOver (value_of (range_at ranges p).high) (high p) d
  pub low_size : (p : ℕ) → p < length ranges → IsAtMostSize (real p) (tiny p) (low p)
  pub high_size : (p : ℕ) → p < length ranges → IsAtMostSize (real p) (tiny p) (high p)

-- twice the sum of these magnitudes fits, and so does the denominator
pub record IsNarrowSize (n d : ℕ) (real tiny : ℕ → ℕ) : Type 0 where
  pub positive : 0 < d
  pub den : d < 2 ^ 127
  pub in_real : 2 * count_below n real < 2 ^ 127
  pub in_tiny : 2 * count_below n tiny < 2 ^ 127

-- where the magnitudes of all ends together fit twice over one denominator, no sum of two signed sums passes, and no difference
abbrev pub NarrowRangesHaveRoom : {E : Type 0} → (E → Parts) → (Op → E → E → Wide → Type 0) → Type 0
NarrowRangesHaveRoom parts passes = (ranges : List (Interval Parts)) (d : ℕ) (real tiny : ℕ → ℕ) → AreSized d ranges real tiny → IsNarrowSize (length ranges) d real tiny → HasRoom parts passes ranges

-- values that lie in all ranges and meet all rows
pub record Meets (rows : List (List (ℕ × Bool))) (ranges : List (Interval Parts)) (z : ℕ → Parts) : Type 0 where
  pub within : (p : ℕ) → p < length ranges → HasPair (range_at ranges p) (z p)
  pub met : (i : ℕ) → i < length rows → SameParts (row_total (row_at rows i) z) zero_parts

-- there are none where multipliers contradict
abbrev pub ContradictionsExclude : Type 0
ContradictionsExclude = (rows : List (List (ℕ × Bool))) (ranges : List (Interval Parts)) (by ends : List ℤ) (z : ℕ → Parts) → AreRows (length ranges) rows → Contradicts rows ranges by ends → ¬ Meets rows ranges z

-- over one denominator, sums of pairs have the sums of their parts
abbrev pub SumsAreOver : Type 0
SumsAreOver = (n : ℕ) (f : ℕ → Parts) (h : ℕ → WholeParts) (d : ℕ) → 0 < d → ((j : ℕ) → j < n → ArePartsOver (f j) (h j) d)
    → ArePartsOver (parts_below n f) (record { real = sum_below n (λ j. (h j).real); tiny = sum_below n (λ j. (h j).tiny) }) d
