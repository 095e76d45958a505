-- Values beside bounds.
use Rattle.std.specs.Prelude.{ℕ, Bool, true, false}
use Rattle.xc_corners.specs.Pairs.{◌≺◌, ◌≼◌}
use Rattle.xc_frac.specs.declared.delta.Delta.{Delta}
use Rattle.xc_model.specs.Parts.{WholeParts}
use Rattle.xc_model.specs.Ratio.{Ratio}
use Rattle.xc_pivot.specs.Deltas.{ArePartsOf}

-- a is less than b, or not
abbrev pub IsSide : Bool → WholeParts → WholeParts → Type 0
IsSide true a b = a ≺ b
IsSide false a b = b ≼ a

-- the answer tells whether the one number is less than the other, whatever they are over
abbrev pub IsBelowAt : Bool → Delta Ratio → Delta Ratio → Type 0
IsBelowAt answer left right = (n : ℕ) (a b : WholeParts) → ArePartsOf n a left → ArePartsOf n b right → IsSide answer a b
