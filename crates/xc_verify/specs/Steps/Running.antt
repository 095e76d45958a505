-- The sums of all points at once, each of which may have been ended by an operation that passed.
use Rattle.std.specs.Prelude.{ℕ, ◌==◌, List, [], ◌∷◌, Option, Some, None, Result, Ok, Err, slice_index_or, if◌then◌else◌}
use Rattle.xc_frac.specs.declared.wide.Wide.{Wide}
use Rattle.xc_model.specs.Ratio.{Ratio}
use Rattle.xc_system.specs.Refutations.{is_low_open, is_high_open}
use Rattle.xc_system.specs.Systems.{Constraints}
use Rattle.xc_system.specs.declared.types.Side.{Side}
use Rattle.xc_system.specs.declared.types.Side.TheVariants.{Low, High}
use Rattle.std.specs.Prelude.{Bool}
use Rattle.xc_verify.specs.Sums.{Term, IsSum, zero_ratio}

-- a number, unless an operation passed before it came about
abbrev pub unless_stopped : Option Wide → Ratio → Result Ratio Wide
unless_stopped None x = Ok x
unless_stopped (Some w) x = Err w

-- the sum of a point
abbrev pub sum_at : List Ratio → List (Option Wide) → ℕ → Result Ratio Wide
sum_at sums stops p = unless_stopped (slice_index_or stops p None) (slice_index_or sums p zero_ratio)

-- the sum of each point has these terms more
abbrev pub Adds : (ℕ → List Term) → (ℕ → Result Ratio Wide) → (ℕ → Result Ratio Wide) → Type 0
Adds ts old new = (p : ℕ) → IsSum (old p) (ts p) (new p)

-- one term for one point
abbrev pub at_point : ℕ → Term → ℕ → List Term
at_point q t p = if q == p then t ∷ [] else []

-- the end of a fact on this side is open
abbrev pub is_open_on : Side → Constraints → ℕ → Bool
is_open_on Low s k = is_low_open s k
is_open_on High s k = is_high_open s k
