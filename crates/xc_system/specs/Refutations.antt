-- What a refutation adds up to, and when it contradicts a system (Motzkin's transposition theorem is why there is one wherever no
-- assignment solves the system).
use Rattle.std.specs.Prelude.{◌≡◌, ℕ, ◌<◌, ◌==◌, ◌||◌, ◌⊎◌, pos, Bool, false, List, [], ◌∷◌, Some, slice_get, length, IsTrue, IsSomeAnd, All, if◌then◌else◌}
use Rattle.std.specs.List.{list_any}
use Rattle.std.specs.Option.{option_map_or}
use Rattle.xc_interval.specs.Ends.{value_of, is_open}
use Rattle.xc_model.specs.Fraction.{Fraction, whole, sum_of, difference_of, product_of}
use Rattle.xc_model.specs.Ratio.{Ratio, fraction_of}
use Rattle.xc_system.specs.Kept.{Multipliers, IsRefutation}
use Rattle.xc_lists.specs.Members.{IsIn}
use Rattle.xc_system.specs.Solutions.{Assignment, IsZero, IsNegative, MayAdmit, Holds, sum_over_entries}
use Rattle.xc_system.specs.Systems.{Constraints, equation_at, range_at, point_at}
use Rattle.xc_system.specs.declared.types.Bound.{Bound}
use Rattle.xc_system.specs.declared.types.Component.{Component}

-- what is listed, each multiplier times the number of what it multiplies
abbrev pub total : List (ℕ × Ratio) → (ℕ → Fraction) → Fraction
total [] of = whole (pos 0)
total (m ∷ ms) of = sum_of (product_of (fraction_of m.1) (of m.0)) (total ms of)

-- 1 for point j, and 0 for any other
abbrev pub unit_at : ℕ → ℕ → Fraction
unit_at j p = if p == j then whole (pos 1) else whole (pos 0)

-- the value of the low end of fact k; 0 where it is wide
abbrev pub low_at : Constraints → ℕ → Fraction
low_at s k = option_map_or (λ interval. fraction_of (value_of interval.low)) (range_at s.bounds k) (whole (pos 0))

-- and of its high end
abbrev pub high_at : Constraints → ℕ → Fraction
high_at s k = option_map_or (λ interval. fraction_of (value_of interval.high)) (range_at s.bounds k) (whole (pos 0))

-- whether the low end of fact k is open; a wide fact has none that is
abbrev pub is_low_open : Constraints → ℕ → Bool
is_low_open s k = option_map_or (λ interval. is_open interval.low) (range_at s.bounds k) false

-- and whether its high end is
abbrev pub is_high_open : Constraints → ℕ → Bool
is_high_open s k = option_map_or (λ interval. is_open interval.high) (range_at s.bounds k) false

-- The combination of a refutation is the sum of multiplier times (value - low end) over the listed low ends, of multiplier times
-- (high end - value) over the listed high ends, and of multiplier times the sum of weight times value over the listed equations.
-- What lies in the intervals and meets the equations makes none of these negative.

-- the coefficient in it of the value of point j
abbrev pub coefficient : Constraints → Multipliers → ℕ → Fraction
coefficient s r j = sum_of (total r.bindings (λ i. sum_over_entries (equation_at s.equations i).entries (unit_at j)))
    (difference_of (total r.lows (λ k. unit_at j (point_at s.bounds k))) (total r.highs (λ k. unit_at j (point_at s.bounds k))))

-- its constant
abbrev pub constant : Constraints → Multipliers → Fraction
constant s r = difference_of (total r.highs (high_at s)) (total r.lows (low_at s))

-- some listed end is open
abbrev pub lists_open : Constraints → Multipliers → Bool
lists_open s r = list_any (λ m. is_low_open s m.0) r.lows || list_any (λ m. is_high_open s m.0) r.highs

-- fact k is one of the system, and not wide
abbrev pub IsKnown : Constraints → ℕ → Type 0
IsKnown s k = IsSomeAnd (range_at s.bounds k) (λ interval. Unit {0})

-- the constant is negative; or it is 0, while a listed end is open
abbrev pub IsShort : Constraints → Multipliers → Type 0
IsShort s r = IsNegative (constant s r) ⊎ (IsZero (constant s r) × IsTrue (lists_open s r))

-- the refutation contradicts the system: what it names is there, no listed fact is wide, no value counts in the combination, and its
-- constant falls short of 0
pub record IsContradiction (s : Constraints) (r : Multipliers) : Type 0 where
  pub kept : IsRefutation r
  pub bindings : All (λ m. m.0 < length s.equations) r.bindings
  pub lows : All (λ m. IsKnown s m.0) r.lows
  pub highs : All (λ m. IsKnown s m.0) r.highs
  pub cancels : (j : ℕ) → j < s.points → IsZero (coefficient s r j)
  pub short : IsShort s r

-- fact k is not wide, and of a point of the component
abbrev pub IsKnownIn : Constraints → Component → ℕ → Type 0
IsKnownIn s c k = IsKnown s k × IsIn (point_at s.bounds k) c.points

-- the refutation contradicts a component: the same of what is its own
pub record IsContradictionOf (s : Constraints) (c : Component) (r : Multipliers) : Type 0 where
  pub kept : IsRefutation r
  pub bindings : All (λ m. IsIn m.0 c.equations) r.bindings
  pub lows : All (λ m. IsKnownIn s c m.0) r.lows
  pub highs : All (λ m. IsKnownIn s c m.0) r.highs
  pub cancels : (j : ℕ) → IsIn j c.points → IsZero (coefficient s r j)
  pub short : IsShort s r

-- fact k admits the value of its point, where it is not wide
abbrev pub AdmitsAt : Constraints → Assignment → ℕ → Type 0
AdmitsAt s z k = (bound : Bound) → slice_get s.bounds k ≡ Some bound → MayAdmit bound (z bound.point)

-- the listed facts admit the values, and the listed equations hold of them
pub record Passes (s : Constraints) (r : Multipliers) (z : Assignment) : Type 0 where
  pub lows : All (λ m. AdmitsAt s z m.0) r.lows
  pub highs : All (λ m. AdmitsAt s z m.0) r.highs
  pub bindings : All (λ m. Holds (equation_at s.equations m.0) z) r.bindings
