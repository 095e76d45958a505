-- What the ranges say of the facts of the points.
use Rattle.std.proofs.Common.{◌≡◌, ℕ, zero, suc, ◌<◌, length, List, [], ◌∷◌, Option, Some, None, inl, inr, refl, arith}
use Rattle.std.specs.Prelude.{◌↔◌, IsSomeAnd, slice_get}
use Rattle.xc_interval.specs.declared.mode.Mode.{Mode}
use Rattle.xc_interval.specs.declared.range.Range.{Range}
use Rattle.xc_interval.specs.declared.range.Range.TheVariants as range
use Rattle.xc_model.specs.Fraction.{Fraction}
use Rattle.xc_points.specs.Facts.{PointAdmits, IsWidePoint, IsEmptyPoint}
use Rattle.xc_points.specs.Gathered.{IsRange}
use Rattle.xc_points.specs.declared.types.Point.{Point}
use Rattle.xc_report.specs.declared.reports.Fact.{Fact}
use Rattle.xc_verdict.specs.Ranges.{range_if, SomeHas, EachHas}
use Rattle.xc_verdict.specs.Steps.Sums.{IsWideRange, IsEmptyRange, IsMetRange, Has}

-- ---- of lists of numbers

pub some_of_some : (P Q R : ℕ → Type 0) → ((k : ℕ) → R k → P k → Q k) → (ks : List ℕ) → EachHas R ks → SomeHas P ks → SomeHas Q ks
some_of_some P Q R h [] each some = absurd some
some_of_some P Q R h (k ∷ ks) each (inl here) = inl (h k each.0 here)
some_of_some P Q R h (k ∷ ks) each (inr later) = inr (some_of_some P Q R h ks each.1 later)

pub none_of_each : (P R : ℕ → Type 0) → ((k : ℕ) → R k → P k → ⊥) → (ks : List ℕ) → EachHas R ks → SomeHas P ks → ⊥
none_of_each P R h [] each some = absurd some
none_of_each P R h (k ∷ ks) each (inl here) = h k each.0 here
none_of_each P R h (k ∷ ks) each (inr later) = none_of_each P R h ks each.1 later

-- ---- of one point

-- there is a point
abbrev pub IsThere : List Point → ℕ → Type 0
IsThere points k = (point : Point) × (slice_get points k ≡ Some point)

pub is_there : (points : List Point) (k : ℕ) → k < length points → IsThere points k
is_there [] k h = absurd (omega (arith, h))
is_there (p ∷ ps) zero h = (p, refl)
is_there (p ∷ ps) (suc k) h = is_there ps k (omega (arith, h))

module _ (mode : Mode) (facts : List Fact) where
  -- the range of each such point is that of its facts
  abbrev pub RangesAre : Option Point → Type 0
  RangesAre o = (point : Point) → o ≡ Some point → IsRange mode facts point point.range

  wide_range : (point : Point) (r : Range) → IsRange mode facts point r → IsWidePoint mode facts point → IsWideRange r
  wide_range point range.Wide is wide = refl
  wide_range point range.Empty is wide = absurd (is.0 wide)
  wide_range point (range.Meets i) is wide = absurd (is.narrow wide)

  range_wide : (point : Point) (r : Range) → IsRange mode facts point r → IsWideRange r → IsWidePoint mode facts point
  range_wide point range.Wide is wide = is
  range_wide point range.Empty is wide = absurd (cc)
  range_wide point (range.Meets i) is wide = absurd (cc)

  range_empty : (point : Point) (r : Range) → IsRange mode facts point r → IsEmptyRange r → IsEmptyPoint mode facts point
  range_empty point range.Wide is empty = absurd (cc)
  range_empty point range.Empty is empty = is.1
  range_empty point (range.Meets i) is empty = absurd (cc)

  -- a wide point has a wide range, and the other way
  pub wide_if : (o : Option Point) → RangesAre o → IsSomeAnd o (λ point. IsWidePoint mode facts point) → IsWideRange (range_if o)
  wide_if None are wide = absurd wide
  wide_if (Some point) are wide = wide_range point point.range (are point refl) wide

  pub if_wide : (o : Option Point) (p : Point) → o ≡ Some p → RangesAre o → IsWideRange (range_if o) → IsSomeAnd o (λ point. IsWidePoint mode facts point)
  if_wide None p is are wide = absurd (cc)
  if_wide (Some point) p is are wide = range_wide point point.range (are point refl) wide

  pub if_empty : (o : Option Point) → RangesAre o → IsEmptyRange (range_if o) → IsSomeAnd o (λ point. IsEmptyPoint mode facts point)
  if_empty None are empty = absurd (cc)
  if_empty (Some point) are empty = range_empty point point.range (are point refl) empty

  -- a number lies in a range exactly where all facts of the point admit it
  admits_range : (point : Point) (r : Range) → IsRange mode facts point r → IsMetRange r → (x : Fraction) → PointAdmits mode facts point x.num x.den ↔ Has r x
  admits_range point range.Wide is met x = absurd met
  admits_range point range.Empty is met x = absurd met
  admits_range point (range.Meets i) is met x = is.numbers x.num x.den x.positive

  pub admits_if : (o : Option Point) → RangesAre o → IsMetRange (range_if o) → (x : Fraction) → IsSomeAnd o (λ point. PointAdmits mode facts point x.num x.den) ↔ Has (range_if o) x
  admits_if None are met x = absurd met
  admits_if (Some point) are met x = admits_range point point.range (are point refl) met x
