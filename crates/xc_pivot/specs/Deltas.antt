-- Operations on both parts of a number with an infinitely small part.
use Rattle.std.specs.Prelude.{◌≡◌, ℕ, Bool, true, false}
use Rattle.xc_corners.specs.Corners.{low_bound, high_bound}
use Rattle.xc_corners.specs.Operations.{operation, Gives, part}
use Rattle.xc_corners.specs.WholeNumbers.{whole_problem}
use Rattle.xc_corners.specs.declared.problem.Problem.{Problem}
use Rattle.xc_frac.specs.Passes.{Passes}
use Rattle.xc_frac.specs.declared.delta.Delta.{Delta}
use Rattle.xc_frac.specs.declared.wide.Op.{Op}
use Rattle.xc_frac.specs.declared.wide.Wide.{Wide}
use Rattle.xc_model.specs.Parts.{WholeParts}
use Rattle.xc_model.specs.Ratio.{Ratio, IsOver}

-- the real part (false), or the tiny one (true)
abbrev pub of_part : Delta Ratio → Bool → Ratio
of_part d false = d.real
of_part d true = d.tiny

-- each part of d is the exact result of the operation
abbrev pub GivesEach : Op → (Bool → Ratio) → (Bool → Ratio) → Delta Ratio → Type 0
GivesEach op f g d = (c : Bool) → Gives op (f c) (g c) (of_part d c)

-- on neither part does it pass
abbrev pub StaysEach : Op → (Bool → Ratio) → (Bool → Ratio) → Type 0
StaysEach op f g = (c : Bool) → ¬ Passes op (f c) (g c)

-- on one part it passes, and w is that operation
pub record PassesOne (op : Op) (f g : Bool → Ratio) (w : Wide) : Type 0 where
  pub part : Bool
  pub is : w ≡ operation op (f part) (g part)
  pub passes : Passes op (f part) (g part)

-- the parts of d are those of a, over n
abbrev pub ArePartsOf : ℕ → WholeParts → Delta Ratio → Type 0
ArePartsOf n a d = (c : Bool) → IsOver (of_part d c) (part c a) n

-- d is the low bound of variable j
abbrev pub IsLowOf : Problem → ℕ → Delta Ratio → Type 0
IsLowOf problem j d = ArePartsOf (whole_problem problem).unit (low_bound (whole_problem problem) j) d

-- d is its high bound
abbrev pub IsHighOf : Problem → ℕ → Delta Ratio → Type 0
IsHighOf problem j d = ArePartsOf (whole_problem problem).unit (high_bound (whole_problem problem) j) d
