-- The operations on fractions that stand at a corner, with their operands.
use Rattle.std.specs.Prelude.{◌≡◌, ◌≢◌, ℕ, zero, suc, ◌*◌, ◌<◌, Bool, true, false, ◌==◌, if◌then◌else◌, map, List, [], ◌∷◌, length, take, slice_index_or, Some, slice_get, ℤ, pos, filter}
use Rattle.xc_frac.specs.Passes.{Passes}
use Rattle.xc_frac.specs.declared.wide.Op.{Op}
use Rattle.xc_frac.specs.declared.wide.Op.TheVariants.{Add, Sub, Mul, Div}
use Rattle.xc_frac.specs.declared.wide.Wide.{Wide}
use Rattle.xc_model.specs.Fraction.{SameNumber, neg_of, sum_of, difference_of, product_of, IsQuotient}
use Rattle.xc_model.specs.Parts.{WholeParts}
use Rattle.xc_model.specs.Ratio.{Ratio, fraction_of, IsOver}
use Rattle.xc_corners.specs.Choices.{Exchange, first_corner}
use Rattle.xc_corners.specs.Corners.{variables, low_bound, high_bound, Corner, Factors, value}
use Rattle.xc_corners.specs.Problems.{WholeProblem}
use Rattle.xc_corners.specs.WholeNumbers.{whole_problem}
use Rattle.xc_corners.specs.declared.problem.Problem.{Problem}

-- the operation on f and g
abbrev pub operation : Op → Ratio → Ratio → Wide
operation op f g = record { op = op; left = f; right = g }

-- r is the exact result of it
abbrev pub Gives : Op → Ratio → Ratio → Ratio → Type 0
Gives Add f g r = SameNumber (fraction_of r) (sum_of (fraction_of f) (fraction_of g))
Gives Sub f g r = SameNumber (fraction_of r) (difference_of (fraction_of f) (fraction_of g))
Gives Mul f g r = SameNumber (fraction_of r) (product_of (fraction_of f) (fraction_of g))
Gives Div f g r = IsQuotient (fraction_of r) (fraction_of f) (fraction_of g)

-- r is minus f
abbrev pub IsNegativeOf : Ratio → Ratio → Type 0
IsNegativeOf f r = SameNumber (fraction_of r) (neg_of (fraction_of f))

-- r is 0
abbrev pub IsZero : Ratio → Type 0
IsZero r = IsOver r (pos 0) 1

-- r is 1
abbrev pub IsOne : Ratio → Type 0
IsOne r = IsOver r (pos 1) 1

-- ---- An exchange of row b and column q. `Is k j f` says that the fraction f is the factor of column j in the sum of row k.

-- u is the factor of b in the sum of q afterwards: 1 over that of q
pub record IsOwnFactor (Is : ℕ → ℕ → Ratio → Type 0) (b q : ℕ) (u : Ratio) : Type 0 where
  pub one : Ratio
  pub is_one : IsOne one
  pub pivot : Ratio
  pub is_pivot : Is b q pivot
  pub gives : Gives Div one pivot u

-- u is the factor of another column j in the sum of q afterwards: minus that of j, over that of q
pub record IsOtherFactor (Is : ℕ → ℕ → Ratio → Type 0) (b q j : ℕ) (u : Ratio) : Type 0 where
  pub factor : Ratio
  pub is_factor : Is b j factor
  pub negative : Ratio
  pub is_negative : IsNegativeOf factor negative
  pub pivot : Ratio
  pub is_pivot : Is b q pivot
  pub gives : Gives Div negative pivot u

-- m is the factor of q in the sum of row k, times the factor of another column j in the sum of q afterwards
pub record IsProductFactor (Is : ℕ → ℕ → Ratio → Type 0) (b q k j : ℕ) (m : Ratio) : Type 0 where
  pub factor : Ratio
  pub is_factor : Is k q factor
  pub other : Ratio
  pub is_other : IsOtherFactor Is b q j other
  pub gives : Gives Mul factor other m

-- the operations by which the factors after the exchange come from those before it
pub data StandsInExchange (IsRow IsColumn : ℕ → Type 0) (Is : ℕ → ℕ → Ratio → Type 0) (b q : ℕ) (w : Wide) : Type 0 where
  own_divided : (one f : Ratio) → IsOne one → Is b q f → w ≡ operation Div one f → StandsInExchange IsRow IsColumn Is b q w
  other_divided : (j : ℕ) (f n g : Ratio) → IsColumn j → j ≢ q → Is b j f → IsNegativeOf f n → Is b q g → w ≡ operation Div n g → StandsInExchange IsRow IsColumn Is b q w
  own_times : (k : ℕ) (f u : Ratio) → IsRow k → k ≢ b → Is k q f → IsOwnFactor Is b q u → w ≡ operation Mul f u → StandsInExchange IsRow IsColumn Is b q w
  other_times : (k j : ℕ) (f u : Ratio) → IsRow k → k ≢ b → IsColumn j → j ≢ q → Is k q f → IsOtherFactor Is b q j u → w ≡ operation Mul f u → StandsInExchange IsRow IsColumn Is b q w
  other_added : (k j : ℕ) (f m : Ratio) → IsRow k → k ≢ b → IsColumn j → j ≢ q → Is k j f → IsProductFactor Is b q k j m → w ≡ operation Add f m → StandsInExchange IsRow IsColumn Is b q w

-- ---- The first corner.

-- r is what f gives when these are added to it one after another
abbrev pub AddsUp : List Ratio → Ratio → Ratio → Type 0
AddsUp [] f r = f ≡ r
AddsUp (g ∷ gs) f r = (s : Ratio) × Gives Add f g s × AddsUp gs s r

-- r is the sum of these, one after another from 0
pub record IsSumOf (fs : List Ratio) (r : Ratio) : Type 0 where
  pub zero : Ratio
  pub is_zero : IsZero zero
  pub adds_up : AddsUp fs zero r

-- the weights of range j among these entries
abbrev pub weights_of_range : List (ℕ × Ratio) → ℕ → List Ratio
weights_of_range entries j = map (λ entry. entry.1) (filter (λ entry. entry.0 == j) entries)

-- the entries of row i
abbrev pub entries_of : Problem → ℕ → List (ℕ × Ratio)
entries_of problem i = slice_index_or problem.rows i []

-- the real part (false), or the tiny one (true)
abbrev pub part : Bool → WholeParts → ℤ
part false a = a.real
part true a = a.tiny

-- f is a part of the low bound of range j
abbrev pub IsLowPart : Problem → Bool → ℕ → Ratio → Type 0
IsLowPart problem c j f = IsOver f (part c (low_bound (whole_problem problem) j)) (whole_problem problem).unit

-- m is the factor of range j in the sum of row i, times a part of its low bound
pub record IsLowProduct (problem : Problem) (i : ℕ) (c : Bool) (j : ℕ) (m : Ratio) : Type 0 where
  pub factor : Ratio
  pub is_factor : IsSumOf (weights_of_range (entries_of problem i) j) factor
  pub low : Ratio
  pub is_low : IsLowPart problem c j low
  pub gives : Gives Mul factor low m

-- s is the sum of these products of the ranges below n, one after another from 0
abbrev pub IsLowSum : Problem → ℕ → Bool → ℕ → Ratio → Type 0
IsLowSum problem i c zero s = IsZero s
IsLowSum problem i c (suc n) s = (r : Ratio) × (m : Ratio) × IsLowSum problem i c n r × IsLowProduct problem i c n m × Gives Add r m s

-- the operations by which the factors and values of the first corner come from the problem
pub data StandsAtFirst (problem : Problem) (w : Wide) : Type 0 where
  weight_added : (i k : ℕ) (entry : ℕ × Ratio) (s : Ratio) → slice_get (entries_of problem i) k ≡ Some entry → IsSumOf (weights_of_range (take k (entries_of problem i)) entry.0) s
      → w ≡ operation Add s entry.1 → StandsAtFirst problem w
  low_times : (i j : ℕ) (c : Bool) (f g : Ratio) → i < length problem.rows → j < length problem.ranges → IsSumOf (weights_of_range (entries_of problem i) j) f → IsLowPart problem c j g
      → w ≡ operation Mul f g → StandsAtFirst problem w
  low_added : (i j : ℕ) (c : Bool) (s m : Ratio) → i < length problem.rows → j < length problem.ranges → IsLowSum problem i c j s → IsLowProduct problem i c j m
      → w ≡ operation Add s m → StandsAtFirst problem w

-- ---- The values after an exchange.

-- the bound that b passed
abbrev pub passed_bound : WholeProblem → Bool → ℕ → WholeParts
passed_bound p above b = if above then high_bound p b else low_bound p b

-- f is the factor of j in the sum for k
abbrev pub IsFactor : Factors → ℕ → ℕ → Ratio → Type 0
IsFactor t k j f = IsOver f (t.factor k j) t.over

-- f is a part of the value of j
abbrev pub IsValuePart : WholeProblem → Corner → Factors → Bool → ℕ → Ratio → Type 0
IsValuePart p x t c j f = IsOver f (part c (value p x t j)) (t.over * p.unit)

-- g is a part of the gap between the bound that b passed and the value of b
pub record IsGap (p : WholeProblem) (x : Corner) (t : Factors) (above : Bool) (b : ℕ) (c : Bool) (g : Ratio) : Type 0 where
  pub limit : Ratio
  pub is_limit : IsOver limit (part c (passed_bound p above b)) p.unit
  pub value : Ratio
  pub is_value : IsValuePart p x t c b value
  pub gives : Gives Sub limit value g

-- s is a part of the step of q: that gap over the factor of q in the sum for b
pub record IsStep (p : WholeProblem) (x : Corner) (t : Factors) (above : Bool) (b q : ℕ) (c : Bool) (s : Ratio) : Type 0 where
  pub gap : Ratio
  pub is_gap : IsGap p x t above b c gap
  pub pivot : Ratio
  pub is_pivot : IsFactor t b q pivot
  pub gives : Gives Div gap pivot s

-- m is a part of what the step adds to the value of k: the factor of q in the sum for k, times the step
pub record IsMove (p : WholeProblem) (x : Corner) (t : Factors) (above : Bool) (b q k : ℕ) (c : Bool) (m : Ratio) : Type 0 where
  pub factor : Ratio
  pub is_factor : IsFactor t k q factor
  pub step : Ratio
  pub is_step : IsStep p x t above b q c step
  pub gives : Gives Mul factor step m

-- the operations by which the values after the exchange come from those before it
pub data StandsInStep (p : WholeProblem) (x : Corner) (t : Factors) (above : Bool) (b q : ℕ) (w : Wide) : Type 0 where
  gap_taken : (c : Bool) (f v : Ratio) → IsOver f (part c (passed_bound p above b)) p.unit → IsValuePart p x t c b v → w ≡ operation Sub f v → StandsInStep p x t above b q w
  step_divided : (c : Bool) (g f : Ratio) → IsGap p x t above b c g → IsFactor t b q f → w ≡ operation Div g f → StandsInStep p x t above b q w
  entering_moved : (c : Bool) (v s : Ratio) → IsValuePart p x t c q v → IsStep p x t above b q c s → w ≡ operation Add v s → StandsInStep p x t above b q w
  step_times : (c : Bool) (k : ℕ) (f s : Ratio) → k < variables p → x.basic k ≡ true → k ≢ b → IsFactor t k q f → IsStep p x t above b q c s → w ≡ operation Mul f s → StandsInStep p x t above b q w
  basic_moved : (c : Bool) (k : ℕ) (v m : Ratio) → k < variables p → x.basic k ≡ true → k ≢ b → IsValuePart p x t c k v → IsMove p x t above b q k c m → w ≡ operation Add v m → StandsInStep p x t above b q w

-- ---- All of them.

-- variable j is basic
abbrev pub IsBasic : WholeProblem → Corner → ℕ → Type 0
IsBasic p x j = (j < variables p) × (x.basic j ≡ true)

-- variable j is not
abbrev pub IsOther : WholeProblem → Corner → ℕ → Type 0
IsOther p x j = (j < variables p) × (x.basic j ≡ false)

-- w is an operation that stands at corner x: of its first factors and values, or of the exchange that follows it
pub data StandsAt (problem : Problem) (x : Corner) (w : Wide) : Type 0 where
  at_first : x ≡ first_corner (whole_problem problem) → StandsAtFirst problem w → StandsAt problem x w
  in_exchange : (b q : ℕ) (y : Corner) (e : Exchange (whole_problem problem) x b q y) → StandsInExchange (IsBasic (whole_problem problem) x) (IsOther (whole_problem problem) x) (IsFactor e.factors) b q w
      → StandsAt problem x w
  in_step : (b q : ℕ) (y : Corner) (e : Exchange (whole_problem problem) x b q y) → StandsInStep (whole_problem problem) x e.factors e.above b q w → StandsAt problem x w

-- w is an operation that stands at corner x and passes. Its operands are fractions, and so is all on which they rest
pub record PassesAt (problem : Problem) (x : Corner) (w : Wide) : Type 0 where
  pub stands : StandsAt problem x w
  pub passes : Passes w.op w.left w.right
