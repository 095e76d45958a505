-- What is asked of operations on the ends of spans, and what tests on them tell.
use Rattle.std.specs.Prelude.{Bool, true, false}
use Rattle.xc_forest.specs.Steps.Vertices.{◌≺◌, ◌≼◌}
use Rattle.xc_forest.specs.declared.spans.Bounds.{Bounds}
use Rattle.xc_frac.specs.declared.wide.Op.{Op}
use Rattle.xc_frac.specs.declared.wide.Op.TheVariants.{Add, Sub}
use Rattle.xc_frac.specs.declared.wide.Wide.{Wide}
use Rattle.xc_model.specs.Parts.{WholeParts}

-- no operation passes that takes the span of a point from that of its row
abbrev pub CanLessen : {E : Type 0} → (Op → E → E → Wide → Type 0) → Bool → Bounds E → Bounds E → Type 0
CanLessen passes false row point = ((w : Wide) → ¬ passes Sub row.low point.high w) × ((w : Wide) → ¬ passes Sub row.high point.low w)
CanLessen passes true row point = ((w : Wide) → ¬ passes Add row.low point.low w) × ((w : Wide) → ¬ passes Add row.high point.high w)

-- the test tells whether a is less than b
abbrev pub TellsLess : Bool → WholeParts → WholeParts → Type 0
TellsLess true a b = a ≺ b
TellsLess false a b = b ≼ a
