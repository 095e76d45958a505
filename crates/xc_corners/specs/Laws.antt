-- What follows from the definitions for all problems.
use Rattle.std.specs.Prelude.{◌≡◌, ◌≢◌, ◌⊎◌, ℕ, suc, ◌+◌, ◌^◌, ◌<◌, ◌≤◌, Bool, true, false, pos, negsuc, ◌*ℤ◌, ◌<ℤ◌, List, length, Some, slice_get, if◌then◌else◌}
use Rattle.xc_frac.specs.declared.wide.Op.TheVariants.{Add, Mul}
use Rattle.xc_interval.specs.Ends.{value_of, is_open}
use Rattle.xc_interval.specs.declared.interval.Interval.{Interval}
use Rattle.xc_model.specs.Parts.{WholeParts}
use Rattle.xc_model.specs.Ratio.{Ratio, IsOver}
use Rattle.xc_corners.specs.Choices.{Leaves, first_corner, corner_after_exchange, Exchange, Exchanges, Moves, IsReached, IsReachedBy, IsFeasible, IsConflict}
use Rattle.xc_corners.specs.Answers.{Solves, Contradicts}
use Rattle.xc_corners.specs.Conflicts.{multiplier, Refutes, AreOfConflict}
use Rattle.xc_corners.specs.Corners.{variables, low_bound, high_bound, bound, Corner, Factors, IsSolvedForm, value, IsWithin, IsOutside}
use Rattle.xc_corners.specs.Ending.{IsSmallNumber, AreValuesWith}
use Rattle.xc_corners.specs.LastOperations.{IsFeasibleAt, IsConflictAt}
use Rattle.xc_corners.specs.Operations.{Gives, IsOwnFactor, IsOtherFactor, IsProductFactor, IsFactor, IsValuePart, IsStep, IsMove, IsSumOf, weights_of_range, entries_of, IsLowSum, IsLowPart, part, passed_bound}
use Rattle.xc_corners.specs.Pairs.{◌≼◌, times, zero_pair}
use Rattle.xc_corners.specs.Problems.{WholeProblem, IsWholeProblem, IsProblem}
use Rattle.xc_corners.specs.Tables.{first_factors, factors_after_exchange}
use Rattle.xc_corners.specs.WholeNumbers.{whole_problem}
use Rattle.xc_corners.specs.declared.multipliers.Multipliers.{Multipliers}
use Rattle.xc_corners.specs.declared.problem.Problem.{Problem}

-- two solved forms of a corner have the same factors
abbrev pub HasOneSolvedForm : Type 0
HasOneSolvedForm = (p : WholeProblem) (x : Corner) (s t : Factors) (b j : ℕ) → IsSolvedForm p x s → IsSolvedForm p x t → b < variables p → j < variables p
    → x.basic b ≡ true → x.basic j ≡ false → s.factor b j *ℤ pos t.over ≡ t.factor b j *ℤ pos s.over

-- an exchange gives the solved form of the next corner, whatever the side on which the leaving variable is put
abbrev pub ExchangeSolves : Type 0
ExchangeSolves = (p : WholeProblem) (x : Corner) (t : Factors) (above : Bool) (b q : ℕ) → IsSolvedForm p x t → b < variables p → q < variables p
    → x.basic b ≡ true → x.basic q ≡ false → t.factor b q ≢ pos 0 → IsSolvedForm p (corner_after_exchange p x above b q) (factors_after_exchange t b q)

-- the first corner has one whose factors are the weights of the rows
abbrev pub FirstSolved : Type 0
FirstSolved = (p : WholeProblem) → IsWholeProblem p → IsSolvedForm p (first_corner p) (first_factors p)

-- and so each corner of the run has a solved form
abbrev pub ReachedSolved : Type 0
ReachedSolved = (p : WholeProblem) (x : Corner) → IsWholeProblem p → IsReached p x → (t : Factors) × IsSolvedForm p x t

-- ---- The variables at a corner.

-- at the first corner the variables of rows are basic, and those of ranges are not
abbrev pub FirstAreRows : Type 0
FirstAreRows = (p : WholeProblem) (j : ℕ) → (length p.ranges ≤ j → j < variables p → (first_corner p).basic j ≡ true) × (j < length p.ranges → (first_corner p).basic j ≡ false)

-- in y, q is basic, b is not, and all other variables are as in x
pub record ArePutInPlace (x y : Corner) (b q : ℕ) : Type 0 where
  pub entered : y.basic q ≡ true
  pub left : b ≢ q → y.basic b ≡ false
  pub basic : (j : ℕ) → j ≢ b → j ≢ q → y.basic j ≡ x.basic j
  pub high : (j : ℕ) → j ≢ b → j ≢ q → y.high j ≡ x.high j

-- an exchange puts q in the place of b, and leaves all others as they are
abbrev pub ExchangeMovesTwo : Type 0
ExchangeMovesTwo = (p : WholeProblem) (x : Corner) (above : Bool) (b q : ℕ) → ArePutInPlace x (corner_after_exchange p x above b q) b q

-- the value of a variable that is not basic is the bound of its side
abbrev pub OtherIsAtBound : Type 0
OtherIsAtBound = (p : WholeProblem) (x : Corner) (t : Factors) (j : ℕ) → x.basic j ≡ false → value p x t j ≡ times (pos t.over) (bound p x j)

-- two solved forms of a corner give the same values, each over its own number
abbrev pub HasOneValue : Type 0
HasOneValue = (p : WholeProblem) (x : Corner) (s t : Factors) (j : ℕ) → IsSolvedForm p x s → IsSolvedForm p x t → j < variables p
    → times (pos t.over) (value p x s j) ≡ times (pos s.over) (value p x t j)

-- so a variable that is outside its bounds by one of them is not within them by the other
abbrev pub OutsideIsNotWithin : Type 0
OutsideIsNotWithin = (p : WholeProblem) (x : Corner) (s t : Factors) (above : Bool) (j : ℕ) → IsSolvedForm p x s → IsSolvedForm p x t → j < variables p
    → IsOutside p x s above j → ¬ IsWithin p x t j

-- and one variable leaves, past one of its bounds
abbrev pub HasOneLeaving : Type 0
HasOneLeaving = (p : WholeProblem) (x : Corner) (s t : Factors) (above other : Bool) (b d : ℕ) → IsWholeProblem p → IsSolvedForm p x s → IsSolvedForm p x t
    → Leaves p x s above b → Leaves p x t other d → (above ≡ other) × (b ≡ d)

-- ---- The run.

-- where r left, and afterwards only variables up to r move, r does not enter again
abbrev pub NeverComesBack : Type 0
NeverComesBack = (p : WholeProblem) (r n : ℕ) (x y u w : Corner) (q b : ℕ) → IsWholeProblem p → Exchange p x r q y → Moves p (suc r) n y u → Exchange p u b r w
    → q ≤ r → b ≤ r → ⊥

-- from no corner do 3^v exchanges lead on, over v variables
abbrev pub HasFewExchanges : Type 0
HasFewExchanges = (p : WholeProblem) (n : ℕ) (x y : Corner) → IsWholeProblem p → Exchanges p n x y → n < 3 ^ variables p

-- a corner has at most one choice, and one next corner
abbrev pub HasOneChoice : Type 0
HasOneChoice = (p : WholeProblem) (x y z : Corner) (b q d r : ℕ) → IsWholeProblem p → Exchange p x b q y → Exchange p x d r z → (b ≡ d) × (q ≡ r) × (y ≡ z)

-- so n exchanges lead to one corner at most
abbrev pub IsOneRun : Type 0
IsOneRun = (p : WholeProblem) (n : ℕ) (y z : Corner) → IsWholeProblem p → IsReachedBy p n y → IsReachedBy p n z → y ≡ z

-- an exchange leads from a corner of the run to the one after it
abbrev pub RunGoesOn : Type 0
RunGoesOn = (p : WholeProblem) (n : ℕ) (y z : Corner) (b q : ℕ) → IsReachedBy p n y → Exchange p y b q z → IsReachedBy p (suc n) z

-- and of two corners of the run one leads to the other
abbrev pub OneLeadsOn : Type 0
OneLeadsOn = (p : WholeProblem) (m n : ℕ) (y z : Corner) → IsWholeProblem p → IsReachedBy p m y → IsReachedBy p n z
    → ((k : ℕ) × Exchanges p k y z × (n ≡ m + k)) ⊎ ((k : ℕ) × Exchanges p k z y × (m ≡ n + k))

-- no exchange follows a feasible corner
abbrev pub FeasibleIsLast : Type 0
FeasibleIsLast = (p : WholeProblem) (x y : Corner) (t : Factors) (b q : ℕ) → IsSolvedForm p x t → IsFeasible p x t → ¬ Exchange p x b q y

-- nor a conflict
abbrev pub ConflictIsLast : Type 0
ConflictIsLast = (p : WholeProblem) (x y : Corner) (t : Factors) (above : Bool) (b d q : ℕ) → IsWholeProblem p → IsSolvedForm p x t → IsConflict p x t above b
    → ¬ Exchange p x d q y

-- ---- The operations at a corner give the factors and the values at the next one.

-- the denominator is positive, and what an exchange of b and q divides by is not 0
pub record MayExchange (t : Factors) (b q : ℕ) : Type 0 where
  pub over : 0 < t.over
  pub some : t.factor b q ≢ pos 0

-- the factors in the sum of q
abbrev pub EnteringFactors : Type 0
EnteringFactors = (t : Factors) (b q j : ℕ) (u : Ratio) → MayExchange t b q
    → (IsOwnFactor (IsFactor t) b q u → IsFactor (factors_after_exchange t b q) q b u) × (j ≢ b → IsOtherFactor (IsFactor t) b q j u → IsFactor (factors_after_exchange t b q) q j u)

-- the factor of b in another sum
abbrev pub LeavingFactors : Type 0
LeavingFactors = (t : Factors) (b q k : ℕ) (f u m : Ratio) → MayExchange t b q → k ≢ q → IsFactor t k q f → IsOwnFactor (IsFactor t) b q u → Gives Mul f u m
    → IsFactor (factors_after_exchange t b q) k b m

-- any other factor
abbrev pub OtherFactors : Type 0
OtherFactors = (t : Factors) (b q k j : ℕ) (f m r : Ratio) → MayExchange t b q → k ≢ q → j ≢ b → IsFactor t k j f → IsProductFactor (IsFactor t) b q k j m → Gives Add f m r
    → IsFactor (factors_after_exchange t b q) k j r

-- b and q are a basic variable and another one, to be exchanged at corner x of the solved form t
pub record AtExchange (p : WholeProblem) (x : Corner) (t : Factors) (b q : ℕ) : Type 0 where
  pub unit : 0 < p.unit
  pub solved : IsSolvedForm p x t
  pub some : t.factor b q ≢ pos 0
  pub leaving : b < variables p
  pub basic : x.basic b ≡ true
  pub entering : q < variables p
  pub other : x.basic q ≡ false

-- the value of q
abbrev pub EnteringValue : Type 0
EnteringValue = (p : WholeProblem) (x : Corner) (t : Factors) (above : Bool) (b q : ℕ) (c : Bool) (v s r : Ratio) → AtExchange p x t b q
    → IsValuePart p x t c q v → IsStep p x t above b q c s → Gives Add v s r → IsValuePart p (corner_after_exchange p x above b q) (factors_after_exchange t b q) c q r

-- the value of another basic variable
abbrev pub BasicValue : Type 0
BasicValue = (p : WholeProblem) (x : Corner) (t : Factors) (above : Bool) (b q k : ℕ) (c : Bool) (v m r : Ratio) → AtExchange p x t b q → k < variables p → x.basic k ≡ true
    → IsValuePart p x t c k v → IsMove p x t above b q k c m → Gives Add v m r → IsValuePart p (corner_after_exchange p x above b q) (factors_after_exchange t b q) c k r

-- b gets the bound that it passed
abbrev pub LeavingValue : Type 0
LeavingValue = (p : WholeProblem) (x : Corner) (t : Factors) (above : Bool) (b q : ℕ) (c : Bool) (f : Ratio) → AtExchange p x t b q
    → IsOver f (part c (passed_bound p above b)) p.unit → IsValuePart p (corner_after_exchange p x above b q) (factors_after_exchange t b q) c b f

-- and every other variable keeps its value
abbrev pub OtherValue : Type 0
OtherValue = (p : WholeProblem) (x : Corner) (t : Factors) (above : Bool) (b q j : ℕ) (c : Bool) (v : Ratio) → AtExchange p x t b q → x.basic j ≡ false → j ≢ q
    → IsValuePart p x t c j v → IsValuePart p (corner_after_exchange p x above b q) (factors_after_exchange t b q) c j v

-- ---- A problem and the same in whole numbers.

-- of a problem whose rows name ranges, none of them empty, unit and scale are positive, and the same holds in whole numbers
abbrev pub IsWholeToo : Type 0
IsWholeToo = (problem : Problem) → IsProblem problem → IsWholeProblem (whole_problem problem)

-- at the first corner the sum of the weights of a range in a row is its factor there
abbrev pub FirstFactors : Type 0
FirstFactors = (problem : Problem) (i j : ℕ) (f : Ratio) → IsSumOf (weights_of_range (entries_of problem i) j) f → IsFactor (first_factors (whole_problem problem)) (length problem.ranges + i) j f

-- the sum of these times the low bounds is the value of the row
abbrev pub FirstRowValues : Type 0
FirstRowValues = (problem : Problem) (i : ℕ) (c : Bool) (s : Ratio) → i < length problem.rows → IsLowSum problem i c (length problem.ranges) s
    → IsValuePart (whole_problem problem) (first_corner (whole_problem problem)) (first_factors (whole_problem problem)) c (length problem.ranges + i) s

-- and the value of a range is its low bound
abbrev pub FirstRangeValues : Type 0
FirstRangeValues = (problem : Problem) (c : Bool) (j : ℕ) (f : Ratio) → j < length problem.ranges → IsLowPart problem c j f
    → IsValuePart (whole_problem problem) (first_corner (whole_problem problem)) (first_factors (whole_problem problem)) c j f

-- the bounds of a range, by its ends: the value of an end is the real part, and 1 or -1 at an open end the tiny one
pub record HasEndBounds (problem : Problem) (j : ℕ) (range : Interval Ratio) (f : Ratio) : Type 0 where
  pub low_real : IsOver (value_of range.low) (low_bound (whole_problem problem) j).real (whole_problem problem).unit
  pub low_tiny : IsOver f (if is_open range.low then pos 1 else pos 0) 1 → IsOver f (low_bound (whole_problem problem) j).tiny (whole_problem problem).unit
  pub high_real : IsOver (value_of range.high) (high_bound (whole_problem problem) j).real (whole_problem problem).unit
  pub high_tiny : IsOver f (if is_open range.high then negsuc 0 else pos 0) 1 → IsOver f (high_bound (whole_problem problem) j).tiny (whole_problem problem).unit

-- the ends of a range give its bounds so
abbrev pub EndBounds : Type 0
EndBounds = (problem : Problem) (j : ℕ) (range : Interval Ratio) (f : Ratio) → slice_get problem.ranges j ≡ Some range → HasEndBounds problem j range f

-- both bounds of the variable of a row are 0
abbrev pub RowBounds : Type 0
RowBounds = (problem : Problem) (j : ℕ) → length problem.ranges ≤ j → (low_bound (whole_problem problem) j ≡ zero_pair) × (high_bound (whole_problem problem) j ≡ zero_pair)

-- the low bound of each variable is at most its high one
abbrev pub BoundsInOrder : Type 0
BoundsInOrder = (p : WholeProblem) (j : ℕ) → IsWholeProblem p → low_bound p j ≼ high_bound p j

-- there are as many ranges and rows as before, and as many variables as both together
abbrev pub CountsVariables : Type 0
CountsVariables = (problem : Problem) → (length (whole_problem problem).ranges ≡ length problem.ranges) × (variables (whole_problem problem) ≡ length problem.ranges + length problem.rows)
    × (length (whole_problem problem).rows ≡ length problem.rows)

-- ---- The last corner.

-- at a conflict the counts of the variables refute the problem
abbrev pub ConflictRefutes : Type 0
ConflictRefutes = (p : WholeProblem) (x : Corner) (t : Factors) (above : Bool) (b : ℕ) → IsWholeProblem p → IsSolvedForm p x t → IsConflict p x t above b
    → Refutes p (multiplier x t above b)

-- so the multipliers of a conflict contradict the problem
abbrev pub ConflictContradicts : Type 0
ConflictContradicts = (problem : Problem) (x : Corner) (t : Factors) (above : Bool) (b : ℕ) (m : Multipliers) → IsProblem problem → IsConflictAt problem x t above b
    → AreOfConflict (whole_problem problem) x t above b m → Contradicts problem m

-- at a feasible corner the small number is positive
abbrev pub SmallIsPositive : Type 0
SmallIsPositive = (problem : Problem) (x : Corner) (t : Factors) (s : Ratio) → IsProblem problem → IsFeasibleAt problem x t → IsSmallNumber (whole_problem problem) x t s → pos 0 <ℤ s.num

-- and the values with it solve the problem
abbrev pub FeasibleSolves : Type 0
FeasibleSolves = (problem : Problem) (x : Corner) (t : Factors) (s : Ratio) (values : List Ratio) → IsProblem problem → IsFeasibleAt problem x t
    → IsSmallNumber (whole_problem problem) x t s → AreValuesWith (whole_problem problem) x t s values → Solves problem values
