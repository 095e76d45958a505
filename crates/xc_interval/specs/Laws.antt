-- What follows from the definitions for all intervals.
use Rattle.std.specs.Prelude.{◌≡◌, ◌≢◌, ℕ, ◌*◌, ◌+◌, ◌<◌, pos, ◌⊎◌, ◌↔◌, List, Option}
use Prim.Native.Nat.{◌∣◌}
use Rattle.xc_model.specs.Fraction.{Fraction}
use Rattle.xc_model.specs.Ratio.{Ratio}
use Rattle.xc_model.specs.Parts.{real_alone}
use Rattle.xc_interval.specs.Arithmetic.{IsSumInterval, IsSumFrom, IsScaled, IsMultiple}
use Rattle.xc_interval.specs.Intervals.{LiesIn, Crosses, between, frac_parts, numbers_of, pairs_of, HasPair, HasNumber, HasNoPair}
use Rattle.xc_interval.specs.Ranges.{IsRangeOf}
use Rattle.xc_interval.specs.Scales.{AreOnScale, saturated}
use Rattle.xc_interval.specs.declared.ends.End.{End}
use Rattle.xc_interval.specs.declared.interval.Interval.{Interval}
use Rattle.xc_interval.specs.declared.range.Range.{Range}
use Rattle.xc_interval.specs.declared.range.Range.TheVariants.{Meets}

module _ {A : Type 0} (Less Same : A → A → Type 0) where
  -- an interval is empty exactly where nothing lies in it; where it is not, something does
  abbrev pub EndsTell : Type 0
  EndsTell = (i : Interval A) → (Crosses Less Same i → (x : A) → ¬ LiesIn Less Same i x) × (¬ Crosses Less Same i → (x : A) × LiesIn Less Same i x)

  -- of two intervals that are not empty, something lies in the sum exactly where it is a sum of one value of each
  abbrev pub HasSums : (A → A → A) → Type 0
  HasSums sum = (i j s : Interval A) → ¬ Crosses Less Same i → ¬ Crosses Less Same j → IsSumInterval Same sum i j s
      → (x : A) → LiesIn Less Same s x ↔ IsSumFrom Less Same sum i j x

-- a number lies in a multiple of an interval exactly where it is that multiple of a number of it
abbrev pub HasMultiples : Type 0
HasMultiples = (k : Fraction) (i m : Interval Fraction) → k.num ≢ pos 0 → IsScaled k i m → (x : Fraction) → HasNumber m x ↔ IsMultiple k i x

-- among pairs without a tiny part, an interval of numbers has the numbers that lie in it
abbrev pub HasRealsAlone : Type 0
HasRealsAlone = (i : Interval Fraction) (x : Fraction) → HasPair (between (λ y. real_alone y) i) (real_alone x) ↔ HasNumber i x

-- an interval in which something lies is told by its numbers
abbrev pub HasOneInterval : Type 0
HasOneInterval = (i j : Interval Ratio) → ¬ HasNoPair (pairs_of frac_parts i) → ¬ HasNoPair (pairs_of frac_parts j)
    → ((x : Fraction) → HasNumber (numbers_of i) x ↔ HasNumber (numbers_of j) x) → i ≡ j

-- several intervals give one range
abbrev pub HasOneRangeOf : Type 0
HasOneRangeOf = (es : List (Option (Interval Ratio))) (r s : Range) → IsRangeOf es r → IsRangeOf es s → r ≡ s

-- what lies in all of several intervals has a number, where their range is not empty
abbrev pub RangesHaveNumbers : Type 0
RangesHaveNumbers = (es : List (Option (Interval Ratio))) (i : Interval Ratio) → IsRangeOf es (Meets i) → (x : Fraction) × HasNumber (numbers_of i) x

-- how ends of one side go by tightness, where an end admits what is past it, or before it
pub record IsTightness {A : Type 0} (Tighter : End A → End A → Type 0) (Admits : End A → A → Type 0) : Type 0 where
  -- no two are tighter than each other
  pub asymmetric : (e f : End A) → Tighter e f → Tighter f e → ⊥
  -- where e is tighter than g, any third is less tight than e or tighter than g
  pub either : (e f g : End A) → Tighter e g → Tighter e f ⊎ Tighter f g
  -- what a tighter end admits, the other does
  pub lets : (e f : End A) → Tighter e f → (x : A) → Admits e x → Admits f x
  -- what an end admits, one that is not tighter does
  pub keeps : (e f : End A) → ¬ Tighter e f → (x : A) → Admits f x → Admits e x

-- every range has a common denominator, and its multiples are common denominators too
abbrev pub HaveScales : Type 0
HaveScales = (r : Range) → (d : ℕ) × ((0 < d) × AreOnScale d r)

abbrev pub ScalesGrow : Type 0
ScalesGrow = (r : Range) (d m : ℕ) → d ∣ m → AreOnScale d r → AreOnScale m r

-- sums and products of numbers that stay at the end of 128 bits are those of the exact ones, as far as they stay there
abbrev pub SumsStay : Type 0
SumsStay = (a b : ℕ) → saturated (saturated a + saturated b) ≡ saturated (a + b)

abbrev pub ProductsStay : Type 0
ProductsStay = (a b : ℕ) → saturated (a * saturated b) ≡ saturated (a * b)
