-- The small number at a feasible corner, the values with it, and the operations that give both.
use Rattle.std.specs.Prelude.{◌≡◌, ◌⊎◌, ℕ, ◌<◌, Bool, true, false, List, Some, length, slice_get, pos, ◌<ℤ◌}
use Rattle.xc_frac.specs.declared.wide.Op.TheVariants.{Add, Sub, Mul, Div}
use Rattle.xc_frac.specs.declared.wide.Wide.{Wide}
use Rattle.xc_model.specs.Fraction.{IsBelow}
use Rattle.xc_model.specs.Parts.{WholeParts}
use Rattle.xc_model.specs.Ratio.{Ratio, fraction_of, IsOver}
use Rattle.xc_corners.specs.Corners.{Corner, Factors, value}
use Rattle.xc_corners.specs.Operations.{operation, Gives, IsOne, IsValuePart, part, passed_bound}
use Rattle.xc_corners.specs.Pairs.{times}
use Rattle.xc_corners.specs.Problems.{WholeProblem}

-- a value is inside a low bound (false) or a high one (true) by its real part, and outside by its tiny part
abbrev pub IsTightAt : Bool → WholeParts → WholeParts → Type 0
IsTightAt false low a = (low.real <ℤ a.real) × (a.tiny <ℤ low.tiny)
IsTightAt true high a = (a.real <ℤ high.real) × (high.tiny <ℤ a.tiny)

-- the subtraction of a bound and a value that gives what is positive there: of the real parts (false), or the tiny ones (true)
abbrev pub margin_operation : Bool → Bool → Ratio → Ratio → Wide
margin_operation false false limit value = operation Sub value limit
margin_operation false true limit value = operation Sub limit value
margin_operation true false limit value = operation Sub limit value
margin_operation true true limit value = operation Sub value limit

-- r is 2
abbrev pub IsTwo : Ratio → Type 0
IsTwo r = IsOver r (pos 2) 1

module _ (p : WholeProblem) (x : Corner) (t : Factors) where
  -- f is a part of the low bound of range j (false), or of its high one
  abbrev pub IsLimitPart : Bool → ℕ → Bool → Ratio → Type 0
  IsLimitPart high j c f = IsOver f (part c (passed_bound p high j)) p.unit

  -- the value of range j is so at its low bound (false), or at its high one
  abbrev pub IsTight : Bool → ℕ → Type 0
  IsTight high j = IsTightAt high (times (pos t.over) (passed_bound p high j)) (value p x t j)

  -- g is the result of that subtraction
  pub record IsMargin (high : Bool) (j : ℕ) (c : Bool) (g : Ratio) : Type 0 where
    pub limit : Ratio
    pub is_limit : IsLimitPart high j c limit
    pub value : Ratio
    pub is_value : IsValuePart p x t c j value
    pub gives : Gives Sub (margin_operation high c limit value).left (margin_operation high c limit value).right g

  -- r is the margin of the real parts over that of the tiny ones: the small number has to be less
  pub record IsQuotientAt (high : Bool) (j : ℕ) (r : Ratio) : Type 0 where
    pub tight : IsTight high j
    pub real : Ratio
    pub is_real : IsMargin high j false real
    pub tiny : Ratio
    pub is_tiny : IsMargin high j true tiny
    pub gives : Gives Div real tiny r

  -- r is one of these quotients, and none is less
  pub record IsLeastQuotient (r : Ratio) : Type 0 where
    pub high : Bool
    pub range : ℕ
    pub is_range : range < length p.ranges
    pub is : IsQuotientAt high range r
    pub least : (high : Bool) (j : ℕ) → j < length p.ranges → IsTight high j → (q : Ratio) × IsQuotientAt high j q × (¬ IsBelow (fraction_of q) (fraction_of r))

  -- s is half of it
  pub record IsHalf (s : Ratio) : Type 0 where
    pub least : Ratio
    pub is_least : IsLeastQuotient least
    pub two : Ratio
    pub is_two : IsTwo two
    pub gives : Gives Div least two s

  -- s is the small number: half of the least quotient, or 1 where there is none
  abbrev pub IsSmallNumber : Ratio → Type 0
  IsSmallNumber s = IsHalf s ⊎ (IsOne s × ((high : Bool) (j : ℕ) → j < length p.ranges → ¬ IsTight high j))

  -- m is the tiny part of the value of range j times s
  pub record IsTinyProduct (s : Ratio) (j : ℕ) (m : Ratio) : Type 0 where
    pub tiny : Ratio
    pub is_tiny : IsValuePart p x t true j tiny
    pub gives : Gives Mul tiny s m

  -- v is the value of range j where the small number is s: the real part and that product
  pub record IsValueWith (s : Ratio) (j : ℕ) (v : Ratio) : Type 0 where
    pub real : Ratio
    pub is_real : IsValuePart p x t false j real
    pub product : Ratio
    pub is_product : IsTinyProduct s j product
    pub gives : Gives Add real product v

  -- a value for each range
  pub record AreValuesWith (s : Ratio) (values : List Ratio) : Type 0 where
    pub each : length values ≡ length p.ranges
    pub are : (j : ℕ) (v : Ratio) → slice_get values j ≡ Some v → IsValueWith s j v

  -- the operations that give the quotient of range j at a bound
  pub data StandsInQuotient (high : Bool) (j : ℕ) (w : Wide) : Type 0 where
    margin : (c : Bool) (l v : Ratio) → IsLimitPart high j c l → IsValuePart p x t c j v → w ≡ margin_operation high c l v → StandsInQuotient high j w
    divided : (f g : Ratio) → IsMargin high j false f → IsMargin high j true g → w ≡ operation Div f g → StandsInQuotient high j w

  -- the operations that give the small number
  pub data StandsInSmall (w : Wide) : Type 0 where
    in_quotient : (high : Bool) (j : ℕ) → j < length p.ranges → IsTight high j → StandsInQuotient high j w → StandsInSmall w
    halved : (r two : Ratio) → IsLeastQuotient r → IsTwo two → w ≡ operation Div r two → StandsInSmall w

  -- the operations that give the value of range j with the small number s
  pub data StandsInValue (s : Ratio) (j : ℕ) (w : Wide) : Type 0 where
    tiny_times : (f : Ratio) → IsValuePart p x t true j f → w ≡ operation Mul f s → StandsInValue s j w
    real_added : (f m : Ratio) → IsValuePart p x t false j f → IsTinyProduct s j m → w ≡ operation Add f m → StandsInValue s j w

  -- the operations that give the values with the small number
  pub record StandsInValues (w : Wide) : Type 0 where
    pub small : Ratio
    pub is_small : IsSmallNumber small
    pub range : ℕ
    pub is_range : range < length p.ranges
    pub stands : StandsInValue small range w
