-- Steps of the code: what the ranges of points say of a binding: the numbers that they have, of any denominator.
use Rattle.std.specs.Prelude.{ℕ, ℤ, pos, ◌+◌, ◌*◌, ◌^◌, ◌<◌, ◌≤◌, ◌⊎◌, ◌↔◌, unsigned_abs, IsTrue, List, [], ◌∷◌}
use Rattle.xc_bind.specs.declared.types.Binding.{Binding}
use Rattle.xc_bind.specs.declared.types.Term.{Term}
use Rattle.xc_bind.specs.declared.types.Verdict.{Verdict}
use Rattle.xc_bind.specs.declared.types.Verdict.TheVariants.{Consistent, Inconsistent, Unjudged, TooWide}
use Rattle.xc_decimal.specs.Shortest.{Shortest, decimal_number}
use Rattle.xc_interval.specs.Ends.{value_of}
use Rattle.xc_interval.specs.Intervals.{frac_parts, numbers_of, pairs_of, HasNumber, HasNoPair}
use Rattle.xc_interval.specs.Ranges.{is_empty_range, is_wide_range}
use Rattle.xc_interval.specs.declared.ends.End.{End}
use Rattle.xc_interval.specs.declared.interval.Interval.{Interval}
use Rattle.xc_interval.specs.declared.range.Range.{Range}
use Rattle.xc_interval.specs.declared.range.Range.TheVariants as range
use Rattle.xc_model.specs.Fraction.{Fraction, SameNumber, whole, sum_of, product_of}
use Rattle.xc_model.specs.Ratio.{Ratio, IsOver}
use Rattle.xc_points.specs.declared.types.Point.{Point}
use Rattle.xc_verdict.specs.Ranges.{named_points, range_at, SomeHas, EachHas}
use Rattle.xc_interval.specs.Scales.{AreOnScale, greatest}
use Rattle.xc_verdict.specs.Widths.{weight_size, IsNarrowBinding}

-- the range is wide
abbrev pub IsWideRange : Range → Type 0
IsWideRange r = IsTrue (is_wide_range r)

-- the range is empty
abbrev pub IsEmptyRange : Range → Type 0
IsEmptyRange r = IsTrue (is_empty_range r)

-- something lies in the interval
abbrev pub IsSomeInterval : Interval Ratio → Type 0
IsSomeInterval i = ¬ HasNoPair (pairs_of frac_parts i)

-- the range is an interval in which something lies
abbrev pub IsMetRange : Range → Type 0
IsMetRange range.Wide = ⊥
IsMetRange range.Empty = ⊥
IsMetRange (range.Meets i) = IsSomeInterval i

-- where the range is an interval, something lies in it
abbrev pub IsKeptRange : Range → Type 0
IsKeptRange range.Wide = Unit {0}
IsKeptRange range.Empty = Unit {0}
IsKeptRange (range.Meets i) = IsSomeInterval i

-- the number lies in the range
abbrev pub Has : Range → Fraction → Type 0
Has range.Wide x = ⊥
Has range.Empty x = ⊥
Has (range.Meets i) x = HasNumber (numbers_of i) x

-- x is the weight times a number with the property
pub record IsWeighted (weight : Shortest) (P : Fraction → Type 0) (x : Fraction) : Type 0 where
  pub number : Fraction
  pub has : P number
  pub is : SameNumber (product_of number (decimal_number weight)) x

-- x is the sum of a number with the one property and a number with the other
pub record IsSumWith (P Q : Fraction → Type 0) (x : Fraction) : Type 0 where
  pub one : Fraction
  pub other : Fraction
  pub has_one : P one
  pub has_other : Q other
  pub adds : SameNumber (sum_of one other) x

-- the interval has exactly the numbers with this property
abbrev pub Holds : Interval Ratio → (Fraction → Type 0) → Type 0
Holds i P = (x : Fraction) → HasNumber (numbers_of i) x ↔ P x

module _ (points : List Point) where
  -- x is a term's weight times a number of its point's range
  abbrev pub IsTermOf : Term → Fraction → Type 0
  IsTermOf term x = IsWeighted term.weight (λ y. Has (range_at points term.point) y) x

  -- x is a sum of the terms, each its weight times a number of its point's range
  abbrev pub IsSumOf : List Term → Fraction → Type 0
  IsSumOf [] x = SameNumber x (whole (pos 0))
  IsSumOf (term ∷ terms) x = IsSumWith (λ y. IsTermOf term y) (λ y. IsSumOf terms y) x

  -- x lies in the total's range and is a sum of the terms
  pub record IsShared (binding : Binding) (x : Fraction) : Type 0 where
    pub total : Has (range_at points binding.total) x
    pub terms : IsSumOf binding.terms x

  -- a range is wide
  abbrev pub SomeIsWide : List ℕ → Type 0
  SomeIsWide ks = SomeHas (λ k. IsWideRange (range_at points k)) ks

  -- a range is empty
  abbrev pub SomeIsEmpty : List ℕ → Type 0
  SomeIsEmpty ks = SomeHas (λ k. IsEmptyRange (range_at points k)) ks

  -- every range is an interval in which something lies
  abbrev pub AllAreMet : List ℕ → Type 0
  AllAreMet ks = EachHas (λ k. IsMetRange (range_at points k)) ks

  -- the verdict of a binding, by the ranges
  abbrev pub IsFound : Binding → Verdict → Type 0
  IsFound binding TooWide = SomeIsWide (named_points binding) ⊎ (AllAreMet (named_points binding) × ¬ IsNarrowBinding points binding)
  IsFound binding Unjudged = (¬ SomeIsWide (named_points binding)) × SomeIsEmpty (named_points binding)
  IsFound binding Consistent = AllAreMet (named_points binding) × IsNarrowBinding points binding × ((x : Fraction) × IsShared binding x)
  IsFound binding Inconsistent = AllAreMet (named_points binding) × IsNarrowBinding points binding × ((x : Fraction) → ¬ IsShared binding x)

-- an end is a whole number of the unit 1 / unit, at most so many in magnitude
pub record IsCounted (unit most : ℕ) (end : End Ratio) : Type 0 where
  pub count : ℤ
  pub is : IsOver (value_of end) count unit
  pub within : unsigned_abs count ≤ most

-- both ends are
pub record AreCounted (unit most : ℕ) (i : Interval Ratio) : Type 0 where
  pub low : IsCounted unit most i.low
  pub high : IsCounted unit most i.high

-- the sum of the two intervals has ends of one unit that fit
pub record HasRoomFor (one other : Interval Ratio) : Type 0 where
  pub unit : ℕ
  pub first : ℕ
  pub second : ℕ
  pub unit_fits : unit < 2 ^ 127
  pub fits : first + second < 2 ^ 127
  pub one_counted : AreCounted unit first one
  pub other_counted : AreCounted unit second other

-- the interval times the weight has ends of one unit that fit
pub record HasRoomTimes (i : Interval Ratio) (weight : Shortest) : Type 0 where
  pub scale : ℕ
  pub places : ℕ
  pub positive : 0 < scale
  pub on_scale : AreOnScale scale (range.Meets i)
  pub within : weight.places ≤ places
  pub unit_fits : scale * 10 ^ places < 2 ^ 127
  pub fits : weight_size places weight * greatest scale (range.Meets i) < 2 ^ 127

-- the ends of the interval times the weight are counted as those of the interval are
abbrev pub IsCountedTimes : Interval Ratio → Shortest → Interval Ratio → Type 0
IsCountedTimes i weight m = (scale places : ℕ) → 0 < scale → AreOnScale scale (range.Meets i) → weight.places ≤ places
    → AreCounted (scale * 10 ^ places) (weight_size places weight * greatest scale (range.Meets i)) m
