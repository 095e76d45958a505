-- Ends and values as whole numbers over one denominator.
use Rattle.std.specs.Prelude.{ℕ, ◌*◌, ◌/◌, ◌<◌, ℤ, pos, ◌*ℤ◌, List, [], ◌∷◌, length, slice_index_or}
use Rattle.xc_forest.specs.Forests.{range_at}
use Rattle.xc_forest.specs.Steps.Vertices.{Span}
use Rattle.xc_forest.specs.declared.spans.Bounds.{Bounds}
use Rattle.xc_interval.specs.Ends.{value_of}
use Rattle.xc_interval.specs.declared.interval.Interval.{Interval}
use Rattle.xc_model.specs.Fraction.{Fraction}
use Rattle.xc_model.specs.Parts.{Parts, WholeParts, ArePartsOver}

-- a common multiple of the denominators of a pair
abbrev pub scale_of_pair : Parts → ℕ
scale_of_pair x = x.real.den * x.tiny.den

-- a common multiple of the denominators of all ends
abbrev pub scale_of : List (Interval Parts) → ℕ
scale_of [] = 1
scale_of (range ∷ ranges) = scale_of_pair (value_of range.low) * scale_of_pair (value_of range.high) * scale_of ranges

-- x times d, where the denominator of x divides d
abbrev pub times_scale : ℕ → Fraction → ℤ
times_scale d x = x.num *ℤ pos (d / x.den)

-- both parts of a pair, times d
abbrev pub whole_over : ℕ → Parts → WholeParts
whole_over d x = record { real = times_scale d x.real; tiny = times_scale d x.tiny }

-- the ends of a range, times d
abbrev pub span_over : ℕ → Interval Parts → Span
span_over d range = record { low = whole_over d (value_of range.low); high = whole_over d (value_of range.high) }

-- the spans of the vertices at first: a point's is its range, and a row's is 0 alone
abbrev pub first_spans : List (Interval Parts) → ℕ → Span
first_spans ranges v = span_over (scale_of ranges) (range_at ranges v)

module _ {E : Type 0} (parts : E → Parts) (d : ℕ) where
  -- the ends are those of the span, over d
  pub record AreBoundsOver (bounds : Bounds E) (a : Span) : Type 0 where
    pub low : ArePartsOver (parts bounds.low) a.low d
    pub high : ArePartsOver (parts bounds.high) a.high d

  -- the values are z, over d
  abbrev pub AreValuesOver : List E → (ℕ → WholeParts) → Type 0
  AreValuesOver values z = (v : ℕ) (e : E) → v < length values → ArePartsOver (parts (slice_index_or values v e)) (z v) d

  -- the spans are a, over d
  abbrev pub AreSpansOver : List (Bounds E) → (ℕ → Span) → Type 0
  AreSpansOver spans a = (v : ℕ) (e : Bounds E) → v < length spans → AreBoundsOver (slice_index_or spans v e) (a v)
