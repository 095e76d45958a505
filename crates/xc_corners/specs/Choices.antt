-- The choice at a corner (by least numbers, as Bland's rule has it), the exchange to the next corner, and the run of corners.
use Rattle.std.specs.Prelude.{◌≡◌, ◌≢◌, ℕ, zero, suc, ◌<◌, Bool, true, false, not, ◌&&◌, if◌then◌else◌, ◌==◌, nat_lt, nat_le, ◌⊎◌, length, ℤ, pos, ◌<ℤ◌}
use Rattle.std.specs.Ordering.{int_eq}
use Rattle.xc_model.specs.Parts.{WholeParts}
use Rattle.xc_corners.specs.Corners.{variables, low_bound, high_bound, Corner, Factors, IsSolvedForm, IsWithin, IsOutside}
use Rattle.xc_corners.specs.Problems.{WholeProblem}

-- b is the least basic variable that is not within its bounds
pub record Leaves (p : WholeProblem) (x : Corner) (t : Factors) (above : Bool) (b : ℕ) : Type 0 where
  pub is_variable : b < variables p
  pub basic : x.basic b ≡ true
  pub outside : IsOutside p x t above b
  pub least : (k : ℕ) → k < b → x.basic k ≡ true → IsWithin p x t k

-- the factor of a variable on its low side (false) or its high side (true) is one by which it can move b back
abbrev pub Helps : Bool → Bool → ℤ → Type 0
Helps false false f = pos 0 <ℤ f
Helps false true f = f <ℤ pos 0
Helps true false f = f <ℤ pos 0
Helps true true f = pos 0 <ℤ f

-- q is not basic, its bounds are different, and it can move b back
pub record CanEnter (p : WholeProblem) (x : Corner) (t : Factors) (above : Bool) (b q : ℕ) : Type 0 where
  pub other : x.basic q ≡ false
  pub free : low_bound p q ≢ high_bound p q
  pub helps : Helps above (x.high q) (t.factor b q)

-- q is the least variable that can enter in place of b
pub record Enters (p : WholeProblem) (x : Corner) (t : Factors) (above : Bool) (b q : ℕ) : Type 0 where
  pub is_variable : q < variables p
  pub can : CanEnter p x t above b q
  pub least : (k : ℕ) → k < q → ¬ CanEnter p x t above b k

-- the two parts are equal
abbrev pub is_same_pair : WholeParts → WholeParts → Bool
is_same_pair a b = int_eq a.real b.real && int_eq a.tiny b.tiny

-- q in place of b, and b on the side of the bound that it passed, or on the low side where its bounds are equal
unfoldable pub corner_after_exchange : WholeProblem → Corner → Bool → ℕ → ℕ → Corner
corner_after_exchange p x above b q = record {
  basic = λ j. if j == q then true else (if j == b then false else x.basic j);
  high = λ j. if j == q then false else (if j == b then above && not (is_same_pair (low_bound p b) (high_bound p b)) else x.high j);
}

-- b and q are the choice at x, and y is the next corner
pub record Exchange (p : WholeProblem) (x : Corner) (b q : ℕ) (y : Corner) : Type 0 where
  pub factors : Factors
  pub solved : IsSolvedForm p x factors
  pub above : Bool
  pub leaves : Leaves p x factors above b
  pub enters : Enters p x factors above b q
  pub next : y ≡ corner_after_exchange p x above b q

-- n exchanges lead from x to y
abbrev pub Exchanges : WholeProblem → ℕ → Corner → Corner → Type 0
Exchanges p zero x y = x ≡ y
Exchanges p (suc n) x y = (z : Corner) × (b : ℕ) × (q : ℕ) × Exchange p x b q z × Exchanges p n z y

-- n exchanges lead from x to y, and only variables below r move
abbrev pub Moves : WholeProblem → ℕ → ℕ → Corner → Corner → Type 0
Moves p r zero x y = x ≡ y
Moves p r (suc n) x y = (z : Corner) × (b : ℕ) × (q : ℕ) × Exchange p x b q z × (b < r) × (q < r) × Moves p r n z y

-- the first corner: the variables of rows are basic, and no variable is on its high side
unfoldable pub first_corner : WholeProblem → Corner
first_corner p = record { basic = λ j. nat_le (length p.ranges) j && nat_lt j (variables p); high = λ j. false }

-- the run: x is reached from the first corner by n exchanges
abbrev pub IsReachedBy : WholeProblem → ℕ → Corner → Type 0
IsReachedBy p n x = Exchanges p n (first_corner p) x

-- x stands in the run
abbrev pub IsReached : WholeProblem → Corner → Type 0
IsReached p x = (n : ℕ) × IsReachedBy p n x

-- each basic variable is within its bounds
pub record IsFeasible (p : WholeProblem) (x : Corner) (t : Factors) : Type 0 where
  pub within : (j : ℕ) → j < variables p → x.basic j ≡ true → IsWithin p x t j

-- a variable is to leave, and none can enter
pub record IsConflict (p : WholeProblem) (x : Corner) (t : Factors) (above : Bool) (b : ℕ) : Type 0 where
  pub leaves : Leaves p x t above b
  pub none : (q : ℕ) → q < variables p → ¬ CanEnter p x t above b q

-- x is the last corner of the run: there is no choice at it
pub record IsLast (p : WholeProblem) (x : Corner) : Type 0 where
  pub reached : IsReached p x
  pub factors : Factors
  pub solved : IsSolvedForm p x factors
  pub ends : IsFeasible p x factors ⊎ ((above : Bool) × (b : ℕ) × IsConflict p x factors above b)
