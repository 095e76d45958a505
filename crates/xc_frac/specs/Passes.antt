-- When an operation passes, and which `Wide` it then answers.
use Rattle.std.specs.Prelude.{◌≡◌, ℕ, ℤ, ◌<◌, ◌^◌, ◌⊎◌}
use Rattle.xc_model.specs.Fraction.{IsNumberOver, IsProductOver, IsQuotientOver}
use Rattle.xc_model.specs.Ratio.{Ratio, fraction_of}
use Rattle.xc_model.specs.Width.{IsNarrow, SumPasses, DifferencePasses, ProductPasses, QuotientPasses}
use Rattle.xc_model.specs.Parts.{Parts, WholeParts, ArePartsOver, PartsFit, whole_neg}
use Rattle.xc_frac.specs.declared.wide.Wide.{Wide}
use Rattle.xc_frac.specs.declared.wide.Op.{Op}
use Rattle.xc_frac.specs.declared.wide.Op.TheVariants.{Add, Sub, Mul, Div}

-- op on the fractions x and y passes
abbrev pub Passes : Op → Ratio → Ratio → Type 0
Passes Add x y = SumPasses (fraction_of x) (fraction_of y)
Passes Sub x y = DifferencePasses (fraction_of x) (fraction_of y)
Passes Mul x y = ProductPasses (fraction_of x) (fraction_of y)
Passes Div x y = QuotientPasses (fraction_of x) (fraction_of y)

-- op on the fractions x and y passes, and w names the operation and the two
abbrev pub PassesAs : Op → Ratio → Ratio → Wide → Type 0
PassesAs op x y w = (w ≡ record { op = op; left = x; right = y }) × Passes op x y

-- of two operations in turn, the first that passes answers w
abbrev pub FirstPasses : (Wide → Type 0) → (Wide → Type 0) → Wide → Type 0
FirstPasses first second w = first w ⊎ (((v : Wide) → ¬ (first v)) × second w)

module _ {E : Type 0} (parts : E → Parts) (passes : Op → E → E → Wide → Type 0) where
  -- where two values are whole numbers over d that fit with their sums, the sum does not pass
  abbrev pub SumsHaveRoom : Type 0
  SumsHaveRoom = (x y : E) (a b : WholeParts) (d : ℕ) → ArePartsOver (parts x) a d → ArePartsOver (parts y) b d → PartsFit a b d → (w : Wide) → ¬ (passes Add x y w)

  -- and where they fit with their differences, the difference does not
  abbrev pub DifferencesHaveRoom : Type 0
  DifferencesHaveRoom = (x y : E) (a b : WholeParts) (d : ℕ) → ArePartsOver (parts x) a d → ArePartsOver (parts y) b d → PartsFit a (whole_neg b) d → (w : Wide) → ¬ (passes Sub x y w)

  -- where the product is a whole number over c, and both fit, it does not pass
  abbrev pub ProductsHaveRoom : Type 0
  ProductsHaveRoom = (x y : E) (n m p : ℤ) (d e c : ℕ) → IsNumberOver (parts x).real n d → IsNumberOver (parts y).real m e → IsProductOver n d m e p c → c < 2 ^ 127 → IsNarrow p → (w : Wide) → ¬ (passes Mul x y w)

  -- nor does a quotient where it is one
  abbrev pub QuotientsHaveRoom : Type 0
  QuotientsHaveRoom = (x y : E) (n m p : ℤ) (d e c : ℕ) → IsNumberOver (parts x).real n d → IsNumberOver (parts y).real m e → IsQuotientOver n d m e p c → c < 2 ^ 127 → IsNarrow p → (w : Wide) → ¬ (passes Div x y w)
