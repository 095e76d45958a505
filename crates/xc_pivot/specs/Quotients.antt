-- How far the quotients at a corner are gone through.
use Rattle.std.specs.Prelude.{◌≡◌, ◌⊎◌, ℕ, ◌==◌, ◌<◌, ◌||◌, not, nat_lt, Bool, true, false, Option, Some, None, length}
use Rattle.xc_corners.specs.Corners.{Corner, Factors}
use Rattle.xc_corners.specs.Ending.{IsTight, IsQuotientAt, StandsInQuotient, StandsInSmall}
use Rattle.xc_corners.specs.Operations.{Gives}
use Rattle.xc_corners.specs.Problems.{WholeProblem}
use Rattle.xc_frac.specs.Passes.{Passes, PassesAs}
use Rattle.xc_frac.specs.declared.delta.Delta.{Delta}
use Rattle.xc_frac.specs.declared.wide.Op.TheVariants.{Sub, Div}
use Rattle.xc_frac.specs.declared.wide.Wide.{Wide}
use Rattle.xc_model.specs.Fraction.{IsBelow}
use Rattle.xc_model.specs.Ratio.{Ratio, fraction_of}
use Rattle.xc_pivot.specs.Deltas.{of_part, GivesEach, StaysEach, PassesOne}

-- what a margin is taken of: the real part of a value and the tiny part of its low bound, or the other parts of its high bound and itself
abbrev pub mixed_parts : Bool → Delta Ratio → Delta Ratio → Delta Ratio
mixed_parts false limit value = record { real = value.real; tiny = limit.tiny }
mixed_parts true limit value = record { real = limit.real; tiny = value.tiny }

-- both parts of one number are greater than those of another
abbrev pub ExceedsEach : Delta Ratio → Delta Ratio → Type 0
ExceedsEach one other = IsBelow (fraction_of other.real) (fraction_of one.real) × IsBelow (fraction_of other.tiny) (fraction_of one.tiny)

module _ (high : Bool) (limit value : Delta Ratio) where
  -- both margins are positive
  abbrev pub IsApart : Type 0
  IsApart = ExceedsEach (mixed_parts high limit value) (mixed_parts (not high) limit value)

  -- g has the margins
  abbrev pub AreMargins : Delta Ratio → Type 0
  AreMargins g = GivesEach Sub (of_part (mixed_parts high limit value)) (of_part (mixed_parts (not high) limit value)) g

  -- q is the quotient of the margins
  pub record IsQuotientOf (q : Ratio) : Type 0 where
    pub apart : IsApart
    pub margins : Delta Ratio
    pub are : AreMargins margins
    pub gives : Gives Div margins.real margins.tiny q

  -- the quotient, where both margins are positive
  abbrev pub IsAnswerOf : Option Ratio → Type 0
  IsAnswerOf None = ¬ IsApart
  IsAnswerOf (Some q) = IsQuotientOf q

  -- then no subtraction of them passes
  abbrev pub MarginsStay : Type 0
  MarginsStay = IsApart → StaysEach Sub (of_part (mixed_parts high limit value)) (of_part (mixed_parts (not high) limit value))

  -- both are positive, and w is the division of the margins, and passes
  pub record PassesDivision (w : Wide) : Type 0 where
    pub margins : Delta Ratio
    pub are : AreMargins margins
    pub passes : PassesAs Div margins.real margins.tiny w

  -- w is an operation of the margins or their quotient, and passes
  pub record PassesMargins (w : Wide) : Type 0 where
    pub apart : IsApart
    pub passes : PassesOne Sub (of_part (mixed_parts high limit value)) (of_part (mixed_parts (not high) limit value)) w ⊎ PassesDivision w

-- the lesser of two numbers, where they are there
abbrev pub IsLesser : Option Ratio → Option Ratio → Option Ratio → Type 0
IsLesser None other r = r ≡ other
IsLesser (Some f) None r = r ≡ Some f
IsLesser (Some f) (Some g) r = ((r ≡ Some g) × IsBelow (fraction_of g) (fraction_of f)) ⊎ ((r ≡ Some f) × (¬ IsBelow (fraction_of g) (fraction_of f)))

-- one side of a range more
abbrev pub with_seen : (Bool → ℕ → Bool) → Bool → ℕ → Bool → ℕ → Bool
with_seen seen false j false k = seen false k || (k == j)
with_seen seen false j true k = seen true k
with_seen seen true j false k = seen false k
with_seen seen true j true k = seen true k || (k == j)

-- both sides of the ranges below n
abbrev pub below_seen : ℕ → Bool → ℕ → Bool
below_seen n high k = nat_lt k n

module _ (p : WholeProblem) (x : Corner) (t : Factors) where
  -- the quotient of range j at its low bound (false) or its high one, where its value is tight there
  abbrev pub IsAnswerAt : Bool → ℕ → Option Ratio → Type 0
  IsAnswerAt high j None = ¬ IsTight p x t high j
  IsAnswerAt high j (Some q) = IsQuotientAt p x t high j q

  -- and no operation of it passes
  abbrev pub QuotientStays : Bool → ℕ → Type 0
  QuotientStays high j = (w : Wide) → IsTight p x t high j → StandsInQuotient p x t high j w → ¬ Passes w.op w.left w.right

  -- w is an operation of it, and passes
  pub record PassesQuotient (high : Bool) (j : ℕ) (w : Wide) : Type 0 where
    pub tight : IsTight p x t high j
    pub stands : StandsInQuotient p x t high j w
    pub passes : Passes w.op w.left w.right

  -- r is one of the quotients
  pub record IsSomeQuotient (r : Ratio) : Type 0 where
    pub high : Bool
    pub range : ℕ
    pub is_range : range < length p.ranges
    pub is : IsQuotientAt p x t high range r

  -- of the sides seen none is tight; or r is a quotient, and none of theirs is less
  abbrev pub IsLeastOf : (Bool → ℕ → Bool) → Option Ratio → Type 0
  IsLeastOf seen None = (high : Bool) (j : ℕ) → seen high j ≡ true → ¬ IsTight p x t high j
  IsLeastOf seen (Some r) = IsSomeQuotient r × ((high : Bool) (j : ℕ) → seen high j ≡ true → IsTight p x t high j → (q : Ratio) × IsQuotientAt p x t high j q × (¬ IsBelow (fraction_of q) (fraction_of r)))

  -- no operation of theirs passes
  abbrev pub SeenStay : (Bool → ℕ → Bool) → Type 0
  SeenStay seen = (high : Bool) (j : ℕ) → seen high j ≡ true → QuotientStays high j

  -- w is an operation that gives the small number, and passes
  pub record PassesSmall (w : Wide) : Type 0 where
    pub stands : StandsInSmall p x t w
    pub passes : Passes w.op w.left w.right
