-- What is kept of points, and whether the total's range has a sum of the terms.
use Rattle.std.proofs.Common.{◌≡◌, ℕ, ◌<◌, List, [], ◌∷◌, Bool, true, false, Option, Some, None, map, length, refl, sym, subst}
use Rattle.std.specs.Prelude.{◌↔◌, All, slice_get}
use Rattle.std.proofs.lemmas.List.Elements.{All-head, All-tail}
use Rattle.xc_bind.specs.declared.types.Binding.{Binding}
use Rattle.xc_bind.specs.declared.types.Term.{Term}
use Rattle.xc_interval.specs.Intervals.{numbers_of, HasNumber, TellsNone}
use Rattle.xc_interval.specs.declared.interval.Interval.{Interval}
use Rattle.xc_interval.specs.declared.range.Range.{Range}
use Rattle.xc_interval.specs.declared.range.Range.TheVariants as range
use Rattle.xc_model.specs.Fraction.{Fraction}
use Rattle.xc_model.specs.Ratio.{Ratio}
use Rattle.xc_interval.specs.Ranges.{IsRangeOf}
use Rattle.xc_points.specs.Kept.{AreKept, ends_of}
use Rattle.xc_points.specs.declared.types.Point.{Point}
use Rattle.xc_bind.specs.Placed.{IsInside}
use Rattle.xc_verdict.specs.Ranges.{named_points, point_of, range_if, range_at, EachHas}
use Rattle.xc_verdict.specs.Steps.Sums.{IsKeptRange, Has, Holds, IsSumOf, IsShared}

-- the points that a binding names are there
terms_there : (points : List Point) (terms : List Term) → All (IsInside points) terms → EachHas (λ k. k < length points) (map point_of terms)
terms_there points [] inside = tt
terms_there points (term ∷ terms) inside = (All-head (IsInside points) term terms inside, terms_there points terms (All-tail (IsInside points) term terms inside))

pub all_there : (points : List Point) (binding : Binding) → binding.total < length points → All (IsInside points) binding.terms → EachHas (λ k. k < length points) (named_points binding)
all_there points binding total terms = (total, terms_there points binding.terms terms)

-- the range that intervals give is an interval only where something lies in it
kept_range : (es : List (Option (Interval Ratio))) (r : Range) → IsRangeOf es r → IsKeptRange r
kept_range es range.Wide is = tt
kept_range es range.Empty is = tt
kept_range es (range.Meets i) is = is.some

kept_if : (ends : List (Option (Interval Ratio))) (o : Option Point) → ((point : Point) → o ≡ Some point → IsRangeOf (ends_of ends point.facts) point.range) → IsKeptRange (range_if o)
kept_if ends None kept = tt
kept_if ends (Some point) kept = kept_range (ends_of ends point.facts) point.range (kept point refl)

pub kept_at : (points : List Point) (ends : List (Option (Interval Ratio))) → AreKept points ends → (k : ℕ) → k < length points → IsKeptRange (range_at points k)
kept_at points ends kept k inside = kept_if ends (slice_get points k) (kept.ranges k)

-- nothing lies in what the total's range and the sums have in common exactly where no sum is a number of the range
module _ (points : List Point) (binding : Binding) (total sum both : Interval Ratio) (is : range_at points binding.total ≡ range.Meets total) (held : Holds sum (IsSumOf points binding.terms))
    (meets : (x : Fraction) → HasNumber (numbers_of both) x ↔ (HasNumber (numbers_of total) x × HasNumber (numbers_of sum) x)) where
  shared_of : (x : Fraction) → HasNumber (numbers_of both) x → IsShared points binding x
  shared_of x has =
      let parts = (meets x).0 has in
      record { total = subst (λ (r : Range). Has r x) (sym is) parts.0; terms = (held x).0 parts.1 }

  of_shared : (x : Fraction) → IsShared points binding x → HasNumber (numbers_of both) x
  of_shared x shared = (meets x).1 (subst (λ (r : Range). Has r x) is shared.total, (held x).1 shared.terms)

  pub apart : (b : Bool) → TellsNone b (HasNumber (numbers_of both)) → TellsNone b (IsShared points binding)
  apart true none = λ x shared. none x (of_shared x shared)
  apart false some = (some.0, shared_of some.0 some.1)
