-- What an operation on two fractions gives.
use Rattle.std.specs.Prelude.{Result, Ok, Err}
use Rattle.xc_frac.specs.Passes.{Passes, PassesAs}
use Rattle.xc_frac.specs.declared.wide.Op.{Op}
use Rattle.xc_frac.specs.declared.wide.Op.TheVariants.{Add, Sub, Mul, Div}
use Rattle.xc_frac.specs.declared.wide.Wide.{Wide}
use Rattle.xc_model.specs.Fraction.{SameNumber, sum_of, difference_of, product_of, IsQuotient}
use Rattle.xc_model.specs.Ratio.{Ratio, fraction_of}

-- op on the fractions x and y is exactly r
abbrev pub Gives : Op → Ratio → Ratio → Ratio → Type 0
Gives Add x y r = SameNumber (fraction_of r) (sum_of (fraction_of x) (fraction_of y))
Gives Sub x y r = SameNumber (fraction_of r) (difference_of (fraction_of x) (fraction_of y))
Gives Mul x y r = SameNumber (fraction_of r) (product_of (fraction_of x) (fraction_of y))
Gives Div x y r = IsQuotient (fraction_of r) (fraction_of x) (fraction_of y)

-- what op on x and y gives: the fraction, where it does not pass, and otherwise the operation with its operands
abbrev pub IsResult : Op → Ratio → Ratio → Result Ratio Wide → Type 0
IsResult op x y (Ok r) = (¬ Passes op x y) × Gives op x y r
IsResult op x y (Err w) = PassesAs op x y w
