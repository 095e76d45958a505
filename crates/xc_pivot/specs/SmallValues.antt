-- How far the small number and the values with it are worked out.
use Rattle.std.specs.Prelude.{◌≡◌, ◌⊎◌, ℕ, ◌<◌, List, Option, Some, None, length}
use Rattle.xc_corners.specs.Corners.{Corner, Factors}
use Rattle.xc_corners.specs.Ending.{IsTwo, IsSmallNumber, AreValuesWith, StandsInSmall, StandsInValue}
use Rattle.xc_corners.specs.Operations.{operation, Gives, IsOne}
use Rattle.xc_corners.specs.Problems.{WholeProblem}
use Rattle.xc_frac.specs.Passes.{Passes}
use Rattle.xc_frac.specs.declared.wide.Op.TheVariants.{Div}
use Rattle.xc_frac.specs.declared.wide.Wide.{Wide}
use Rattle.xc_model.specs.Ratio.{Ratio}
use Rattle.xc_pivot.specs.Quotients.{PassesSmall}

-- s is half of a number; 1 where there is none
abbrev pub IsHalfOf : Option Ratio → Ratio → Type 0
IsHalfOf None s = IsOne s
IsHalfOf (Some r) s = (two : Ratio) × IsTwo two × Gives Div r two s

-- w is that division, and passes
abbrev pub PassesHalf : Option Ratio → Wide → Type 0
PassesHalf None w = ⊥
PassesHalf (Some r) w = (two : Ratio) × IsTwo two × (w ≡ operation Div r two) × Passes Div r two

module _ (p : WholeProblem) (x : Corner) (t : Factors) where
  -- no operation passes on the way to the small number
  abbrev pub SmallStays : Type 0
  SmallStays = (w : Wide) → StandsInSmall p x t w → ¬ Passes w.op w.left w.right

  -- nor on the way to the value of range j with it
  abbrev pub ValueStays : Ratio → ℕ → Type 0
  ValueStays s j = (w : Wide) → StandsInValue p x t s j w → ¬ Passes w.op w.left w.right

  -- w is an operation of that value, and passes
  pub record PassesValue (s : Ratio) (j : ℕ) (w : Wide) : Type 0 where
    pub stands : StandsInValue p x t s j w
    pub passes : Passes w.op w.left w.right

  -- the same of the values of all ranges
  abbrev pub ValuesStay : Ratio → Type 0
  ValuesStay s = (j : ℕ) → j < length p.ranges → ValueStays s j

  -- w is an operation of one of them, and passes
  pub record PassesOneValue (s : Ratio) (w : Wide) : Type 0 where
    pub range : ℕ
    pub is_range : range < length p.ranges
    pub at : PassesValue s range w

  -- the values with the small number, and no operation passes on the way to them
  pub record AreDone (values : List Ratio) : Type 0 where
    pub small : Ratio
    pub is_small : IsSmallNumber p x t small
    pub are : AreValuesWith p x t small values
    pub small_stays : SmallStays
    pub values_stay : ValuesStay small

  -- w is an operation on the way to them, and passes
  abbrev pub PassesFeasible : Wide → Type 0
  PassesFeasible w = PassesSmall p x t w ⊎ ((small : Ratio) × IsSmallNumber p x t small × PassesOneValue small w)
