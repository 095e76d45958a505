-- What a refutation keeps.
use Rattle.std.specs.Prelude.{◌≢◌, ℕ, pos, ◌<ℤ◌, List, map, All}
use Rattle.std.specs.List.Sorted.{IsStrictlySortedBy}
use Rattle.std.specs.Ordering.{nat_cmp}
use Rattle.xc_model.specs.Ratio.{Ratio}

-- equations, low ends of facts and high ends of facts by their numbers, each with what it is multiplied by
pub record Multipliers : Type 0 where
  pub bindings : List (ℕ × Ratio)
  pub lows : List (ℕ × Ratio)
  pub highs : List (ℕ × Ratio)

-- the numbers ascend strictly
abbrev pub IsAscending : List (ℕ × Ratio) → Type 0
IsAscending listed = IsStrictlySortedBy nat_cmp (map (λ m. m.0) listed)

-- numbers ascend strictly in each list; no multiplier of an equation is 0, and those of ends are positive
pub record IsRefutation (r : Multipliers) : Type 0 where
  pub bindings_ascend : IsAscending r.bindings
  pub lows_ascend : IsAscending r.lows
  pub highs_ascend : IsAscending r.highs
  pub bindings_count : All (λ m. m.1.num ≢ pos 0) r.bindings
  pub lows_positive : All (λ m. pos 0 <ℤ m.1.num) r.lows
  pub highs_positive : All (λ m. pos 0 <ℤ m.1.num) r.highs
