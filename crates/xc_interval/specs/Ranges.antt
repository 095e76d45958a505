-- What lies in all of several intervals, the tightest ends and whose they are. An interval that is not known is None.
use Rattle.std.specs.Prelude.{◌≡◌, ◌↔◌, ℕ, Bool, true, false, List, [], ◌∷◌, Option, Some, None, slice_get}
use Rattle.xc_interval.specs.Intervals.{frac_parts, numbers_of, pairs_of, HasNumber, HasNoPair}
use Rattle.xc_interval.specs.declared.ends.End.{End}
use Rattle.xc_interval.specs.declared.interval.Interval.{Interval}
use Rattle.xc_interval.specs.declared.range.Range.{Range}
use Rattle.xc_interval.specs.declared.range.Range.TheVariants as range
use Rattle.xc_model.specs.Fraction.{Fraction}
use Rattle.xc_model.specs.Ratio.{Ratio}

-- no number lies in the range
abbrev pub is_empty_range : Range → Bool
is_empty_range range.Empty = true
is_empty_range range.Wide = false
is_empty_range (range.Meets i) = false

-- the range is not known
abbrev pub is_wide_range : Range → Bool
is_wide_range range.Empty = false
is_wide_range range.Wide = true
is_wide_range (range.Meets i) = false

-- all of them are known
abbrev pub AllKnown : List (Option (Interval Ratio)) → Type 0
AllKnown [] = Unit {0}
AllKnown (None ∷ es) = ⊥
AllKnown (Some e ∷ es) = AllKnown es

-- the number lies in each of these intervals, all of which are known
abbrev pub LiesInAll : List (Option (Interval Ratio)) → Fraction → Type 0
LiesInAll [] x = Unit {0}
LiesInAll (None ∷ es) x = ⊥
LiesInAll (Some e ∷ es) x = HasNumber (numbers_of e) x × LiesInAll es x

-- one of these intervals has this low end
abbrev pub HasLow : List (Option (Interval Ratio)) → End Ratio → Type 0
HasLow es low = (e : Interval Ratio) × (f : ℕ) × ((slice_get es f ≡ Some (Some e)) × (e.low ≡ low))

-- one of these intervals has this high end
abbrev pub HasHigh : List (Option (Interval Ratio)) → End Ratio → Type 0
HasHigh es high = (e : Interval Ratio) × (f : ℕ) × ((slice_get es f ≡ Some (Some e)) × (e.high ≡ high))

-- the interval has exactly the numbers that lie in all of these, of which there are some; each end is the end of one of them, so that they are the tightest
pub record IsMeetOf (es : List (Option (Interval Ratio))) (i : Interval Ratio) : Type 0 where
  pub known : AllKnown es
  pub numbers : (x : Fraction) → HasNumber (numbers_of i) x ↔ LiesInAll es x
  pub some : ¬ HasNoPair (pairs_of frac_parts i)
  pub low : HasLow es i.low
  pub high : HasHigh es i.high

-- no number lies in all of these, all of which are known
pub record IsEmptyMeetOf (es : List (Option (Interval Ratio))) : Type 0 where
  pub known : AllKnown es
  pub none : (x : Fraction) → ¬ LiesInAll es x

-- the range that these intervals give
abbrev pub IsRangeOf : List (Option (Interval Ratio)) → Range → Type 0
IsRangeOf es (range.Meets i) = IsMeetOf es i
IsRangeOf es range.Empty = IsEmptyMeetOf es
IsRangeOf es range.Wide = ¬ AllKnown es
