-- The spans of a forest at first.
use Rattle.std.proofs.Common.{◌≡◌, ℕ, ◌<◌, ◌≤◌, List, [], ◌∷◌, ◌++◌, length, get_or, ◌⊎◌, inl, inr, refl, sym, ap, ◌∙◌, arith, subst}
use Rattle.std.proofs.lemmas.Bool.{cases_eq}
use Rattle.std.proofs.lemmas.List.{length-map, get_or-map, get_or_append_left, get_or_push, length_push}
use Rattle.xc_forest.specs.Forests.{ranges_of, range_at}
use Rattle.xc_forest.specs.Steps.Scaled.{scale_of, first_spans, AreBoundsOver, AreSpansOver}
use Rattle.xc_forest.specs.Steps.Vertices.{Span, no_parts}
use Rattle.xc_forest.specs.declared.spans.Bounds.{Bounds}
use Rattle.xc_forest.proofs.Scales.{positive_scale, first_low, first_high, first_none, zero_parts_over}
use Rattle.xc_interval.specs.Ends.{value_of, end_at}
use Rattle.xc_interval.specs.Intervals.{pairs_of}
use Rattle.xc_interval.specs.declared.ends.End.{End}
use Rattle.xc_interval.specs.declared.ends.End.TheVariants.{Closed, Open}
use Rattle.xc_interval.specs.declared.interval.Interval.{Interval}
use Rattle.xc_model.specs.Parts.{Parts, SameParts, WholeParts, ArePartsOver, zero_parts}
use Rattle.xc_model.proofs.NumbersOver.{number_over-same}

pub value_of_end : {E A : Type 0} (meaning : E → A) (e : End E) → value_of (end_at meaning e) ≡ meaning (value_of e)
value_of_end meaning (Closed e) = refl
value_of_end meaning (Open e) = refl

pub same_parts_over : (x y : Parts) (a : WholeParts) (d : ℕ) → SameParts x y → ArePartsOver y a d → ArePartsOver x a d
same_parts_over x y a d s h = record { real = number_over-same y.real x.real a.real d s.real h.real; tiny = number_over-same y.tiny x.tiny a.tiny d s.tiny h.tiny }

module _ {E : Type 0} (parts : E → Parts) where
  -- one more span
  pub spans_push : (d : ℕ) (spans : List (Bounds E)) (new : Bounds E) (a : ℕ → Span) → AreSpansOver parts d spans a → AreBoundsOver parts d new (a (length spans)) → AreSpansOver parts d (spans ++ new ∷ []) a
  spans_push d spans new a h o v e l = go (cases_eq v (length spans))
    where
      go : ((v ≡ length spans) ⊎ (v ≡ length spans → ⊥)) → AreBoundsOver parts d (get_or (spans ++ new ∷ []) v e) (a v)
      go (inl q) = rw (q, get_or_push spans new e (length spans) refl) o
      go (inr q) = let b : v < length spans = omega (arith, length_push spans new) in rw (get_or_append_left spans (new ∷ []) e v b) (h v e b)

  module _ (ranges : List (Interval E)) where
    range_is : (p : ℕ) (r : Interval E) → p < length ranges → r ≡ get_or ranges p r → range_at (ranges_of parts ranges) p ≡ pairs_of parts r
    range_is p r l is = get_or-map (λ (x : Interval E). pairs_of parts x) ranges p r _ l ∙ ap (λ (x : Interval E). pairs_of parts x) (sym is)

    -- the span of a point is its range
    pub span_of_range : (p : ℕ) (r : Interval E) → p < length ranges → r ≡ get_or ranges p r → (low high : E) → low ≡ value_of r.low → high ≡ value_of r.high
        → AreBoundsOver parts (scale_of (ranges_of parts ranges)) (record { low = low; high = high }) (first_spans (ranges_of parts ranges) p)
    span_of_range p r l is low high e f =
        let rs = ranges_of parts ranges in
        let b : p < length rs = omega (arith, length-map ranges (λ (x : Interval E). pairs_of parts x)) in
        record {
          low = subst (λ (x : Parts). ArePartsOver x (first_spans rs p).low (scale_of rs)) (ap (λ (i : Interval Parts). value_of i.low) (range_is p r l is) ∙ value_of_end parts r.low ∙ ap parts (sym e)) (first_low rs p b);
          high = subst (λ (x : Parts). ArePartsOver x (first_spans rs p).high (scale_of rs)) (ap (λ (i : Interval Parts). value_of i.high) (range_is p r l is) ∙ value_of_end parts r.high ∙ ap parts (sym f)) (first_high rs p b);
        }

    -- that of a row is 0 alone
    pub span_of_row : (v : ℕ) → length ranges ≤ v → (low high : E) → SameParts (parts low) zero_parts → SameParts (parts high) zero_parts
        → AreBoundsOver parts (scale_of (ranges_of parts ranges)) (record { low = low; high = high }) (first_spans (ranges_of parts ranges) v)
    span_of_row v l low high s t =
        let rs = ranges_of parts ranges in
        rw (first_none rs v (omega (arith, length-map ranges (λ (x : Interval E). pairs_of parts x)))) (record {
          low = same_parts_over (parts low) zero_parts no_parts (scale_of rs) s (zero_parts_over (scale_of rs) (positive_scale rs));
          high = same_parts_over (parts high) zero_parts no_parts (scale_of rs) t (zero_parts_over (scale_of rs) (positive_scale rs));
        })
