-- How the value of a row is split, once the point that was taken from it is put back.
use Rattle.std.specs.Prelude.{◌≡◌, ℕ, Bool, true, false, ◌⊎◌, ◌+ℤ◌}
use Rattle.xc_forest.specs.Forests.{number_with_sign}
use Rattle.xc_forest.specs.Steps.Vertices.{Span, IsWithin, part, end}
use Rattle.xc_forest.specs.declared.spans.Bounds.{Bounds}
use Rattle.xc_frac.specs.declared.wide.Op.{Op}
use Rattle.xc_frac.specs.declared.wide.Op.TheVariants.{Add, Sub}
use Rattle.xc_frac.specs.declared.wide.Wide.{Wide}
use Rattle.xc_model.specs.Parts.{Parts, WholeParts, ArePartsOver}

-- t is zr less weight times zp
abbrev pub IsRest : Bool → WholeParts → WholeParts → WholeParts → Type 0
IsRest b t zr zp = (c : Bool) → part c zr ≡ part c t +ℤ number_with_sign b (part c zp)

-- zp is the least value of the point with which the row stays within: its low end, or what leaves the row at an end
pub record IsSplit (b : Bool) (x y : Span) (t zr zp : WholeParts) : Type 0 where
  pub row : IsWithin x zr
  pub point : IsWithin y zp
  pub rest : IsRest b t zr zp
  pub least : (zp ≡ y.low) ⊎ (zr ≡ end b x)

-- the two values are such a split, over d
pub record AreSplitOver {E : Type 0} (parts : E → Parts) (d : ℕ) (b : Bool) (x y : Span) (t : WholeParts) (row_value point_value : E) : Type 0 where
  pub row : WholeParts
  pub point : WholeParts
  pub row_over : ArePartsOver (parts row_value) row d
  pub point_over : ArePartsOver (parts point_value) point d
  pub split : IsSplit b x y t row point

-- no operation passes that makes it
abbrev pub CanSplit : {E : Type 0} → (Op → E → E → Wide → Type 0) → Bool → Bounds E → Bounds E → E → Type 0
CanSplit passes false of_row of_point rest = ((w : Wide) → ¬ passes Add rest of_point.low w) × ((w : Wide) → ¬ passes Sub of_row.low rest w)
CanSplit passes true of_row of_point rest = ((w : Wide) → ¬ passes Sub rest of_point.low w) × ((w : Wide) → ¬ passes Sub rest of_row.high w)

-- weight times a value
abbrev pub pair_with_sign : Bool → WholeParts → WholeParts
pair_with_sign b a = record { real = number_with_sign b a.real; tiny = number_with_sign b a.tiny }
