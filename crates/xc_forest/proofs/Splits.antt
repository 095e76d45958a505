-- A value of a row, once a point is taken away, is split into one of the row and one of the point.
use Rattle.std.proofs.Common.{◌≡◌, Bool, true, false, not, ◌+ℤ◌, inl, inr, refl, arith}
use Rattle.std.proofs.lemmas.Int.{ints}
use Rattle.xc_model.specs.Parts.{WholeParts}
use Rattle.xc_model.proofs.Pairs.{same_pairs}
use Rattle.xc_forest.specs.Forests.{number_with_sign}
use Rattle.xc_forest.specs.Steps.Vertices.{◌≼◌, part, Span, end, IsWithin, row_without_point, IsEnd}
use Rattle.xc_forest.specs.Steps.Splits.{IsRest, IsSplit}

pub same_parts : (x y : WholeParts) → ((c : Bool) → part c x ≡ part c y) → x ≡ y
same_parts x y h = same_pairs x y (h false) (h true)

extreme_row : (b e : Bool) (x y : Span) (t zr zp : WholeParts) → IsWithin x zr → IsWithin y zp → (zr.real ≡ t.real +ℤ number_with_sign b zp.real) → (zr.tiny ≡ t.tiny +ℤ number_with_sign b zp.tiny) → t ≡ end e (row_without_point b x y) → zr ≡ end e x
extreme_row false false x y t zr zp h k f g q = same_pairs _ _ (grind (arith, ints)) (grind (arith, ints))
extreme_row false true x y t zr zp h k f g q = same_pairs _ _ (grind (arith, ints)) (grind (arith, ints))
extreme_row true false x y t zr zp h k f g q = same_pairs _ _ (grind (arith, ints)) (grind (arith, ints))
extreme_row true true x y t zr zp h k f g q = same_pairs _ _ (grind (arith, ints)) (grind (arith, ints))

-- the end of the point that goes with an end of the row
abbrev pub across : Bool → Bool → Bool
across false e = not e
across true e = e

extreme_point : (b e : Bool) (x y : Span) (t zr zp : WholeParts) → IsWithin x zr → IsWithin y zp → (zr.real ≡ t.real +ℤ number_with_sign b zp.real) → (zr.tiny ≡ t.tiny +ℤ number_with_sign b zp.tiny) → t ≡ end e (row_without_point b x y) → zp ≡ end (across b e) y
extreme_point false false x y t zr zp h k f g q = same_pairs _ _ (grind (arith, ints)) (grind (arith, ints))
extreme_point false true x y t zr zp h k f g q = same_pairs _ _ (grind (arith, ints)) (grind (arith, ints))
extreme_point true false x y t zr zp h k f g q = same_pairs _ _ (grind (arith, ints)) (grind (arith, ints))
extreme_point true true x y t zr zp h k f g q = same_pairs _ _ (grind (arith, ints)) (grind (arith, ints))

-- where the rest is at an end, both parts are at ends
pub extreme : (b : Bool) (x y : Span) (t zr zp : WholeParts) → IsWithin x zr → IsWithin y zp → IsRest b t zr zp → IsEnd (row_without_point b x y) t → IsEnd x zr × IsEnd y zp
extreme b x y t zr zp h k f q = ((q.0, extreme_row b q.0 x y t zr zp h k (f false) (f true) q.1), (across b q.0, extreme_point b q.0 x y t zr zp h k (f false) (f true) q.1))

abbrev pub IsInside : Bool → Span → WholeParts → Type 0
IsInside false x z = x.low ≼ z
IsInside true x z = z ≼ x.high

split_low_row : (b : Bool) (x y : Span) (t zr : WholeParts) → IsWithin (row_without_point b x y) t → (zr.real ≡ t.real +ℤ number_with_sign b y.low.real) → (zr.tiny ≡ t.tiny +ℤ number_with_sign b y.low.tiny) → IsInside b x zr → IsWithin x zr
split_low_row false x y t zr h f g i = record { low = i; high = grind (arith, ints) }
split_low_row true x y t zr h f g i = record { low = grind (arith, ints); high = i }

pub split_low : (b : Bool) (x y : Span) (t zr : WholeParts) → IsWithin (row_without_point b x y) t → y.low ≼ y.high → IsRest b t zr y.low → IsInside b x zr → IsSplit b x y t zr y.low
split_low b x y t zr h k f i = record { row = split_low_row b x y t zr h (f false) (f true) i; point = record { low = inr (refl, omega (arith, ints)); high = k }; rest = f; least = inl refl }

split_end_point : (b : Bool) (x y : Span) (t zp : WholeParts) → IsWithin (row_without_point b x y) t → ((end b x).real ≡ t.real +ℤ number_with_sign b zp.real) → ((end b x).tiny ≡ t.tiny +ℤ number_with_sign b zp.tiny) → y.low ≼ zp → zp ≼ y.high
split_end_point false x y t zp h f g i = grind (arith, ints)
split_end_point true x y t zp h f g i = grind (arith, ints)

end_within : (b : Bool) (x : Span) → x.low ≼ x.high → IsWithin x (end b x)
end_within false x h = record { low = inr (refl, omega (arith, ints)); high = h }
end_within true x h = record { low = h; high = inr (refl, omega (arith, ints)) }

pub split_end : (b : Bool) (x y : Span) (t zp : WholeParts) → IsWithin (row_without_point b x y) t → x.low ≼ x.high → IsRest b t (end b x) zp → y.low ≼ zp → IsSplit b x y t (end b x) zp
split_end b x y t zp h k f i = record { row = end_within b x k; point = record { low = i; high = split_end_point b x y t zp h (f false) (f true) i }; rest = f; least = inr refl }
