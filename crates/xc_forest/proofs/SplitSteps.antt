-- How a value is split.
use Rattle.std.proofs.Common.{true, false, refl, arith}
use Rattle.std.proofs.lemmas.Int.{ints}
use Rattle.xc_forest.specs.Steps.Spans.{TellsLess}
use Rattle.xc_forest.specs.Steps.Splits.{IsRest, IsSplit}
use Rattle.xc_forest.specs.Steps.Vertices.{Span, IsNonempty, IsWithin, row_without_point}
use Rattle.xc_forest.proofs.Splits.{split_low, split_end}
use Rattle.xc_model.specs.Parts.{WholeParts, whole_sum, whole_difference}

-- the point has its low end
pub low_plus : (x y : Span) (t : WholeParts) → IsNonempty y → IsWithin (row_without_point false x y) t → TellsLess false (whole_sum t y.low) x.low → IsSplit false x y t (whole_sum t y.low) y.low
low_plus x y t k w i = split_low false x y t (whole_sum t y.low) w k rest i
  where
    rest : IsRest false t (whole_sum t y.low) y.low
    rest false = refl
    rest true = refl

pub low_minus : (x y : Span) (t : WholeParts) → IsNonempty y → IsWithin (row_without_point true x y) t → TellsLess false x.high (whole_difference t y.low) → IsSplit true x y t (whole_difference t y.low) y.low
low_minus x y t k w i = split_low true x y t (whole_difference t y.low) w k rest i
  where
    rest : IsRest true t (whole_difference t y.low) y.low
    rest false = refl
    rest true = refl

-- the row has an end
pub end_plus : (x y : Span) (t : WholeParts) → IsNonempty x → IsWithin (row_without_point false x y) t → TellsLess true (whole_sum t y.low) x.low → IsSplit false x y t x.low (whole_difference x.low t)
end_plus x y t k w i = split_end false x y t (whole_difference x.low t) w k rest (grind (arith, ints))
  where
    rest : IsRest false t x.low (whole_difference x.low t)
    rest false = omega (arith, ints)
    rest true = omega (arith, ints)

pub end_minus : (x y : Span) (t : WholeParts) → IsNonempty x → IsWithin (row_without_point true x y) t → TellsLess true x.high (whole_difference t y.low) → IsSplit true x y t x.high (whole_difference t x.high)
end_minus x y t k w i = split_end true x y t (whole_difference t x.high) w k rest (grind (arith, ints))
  where
    rest : IsRest true t x.high (whole_difference t x.high)
    rest false = omega (arith, ints)
    rest true = omega (arith, ints)
