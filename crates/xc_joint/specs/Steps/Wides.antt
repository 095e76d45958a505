-- The least wide fact.
use Rattle.std.specs.Prelude.{ℕ, ◌<◌, Option, Some, None, IsTrue, slice_index}
use Rattle.xc_lists.specs.Members.{IsIn}
use Rattle.xc_system.specs.Spots.{is_wide_fact}
use Rattle.xc_system.specs.Systems.{Constraints, facts_of}
use Rattle.xc_system.specs.declared.types.Component.{Component}

-- the least number of which this holds, where it holds of one
abbrev pub IsLeastIn : (ℕ → Type 0) → Option ℕ → Type 0
IsLeastIn P None = (j : ℕ) → ¬ P j
IsLeastIn P (Some k) = P k × ((j : ℕ) → j < k → ¬ P j)

-- fact k is of point p, and wide
abbrev pub IsWideAt : Constraints → ℕ → ℕ → Type 0
IsWideAt s p k = IsIn k (facts_of s.bounds p) × IsTrue (is_wide_fact s.bounds k)

-- it is of one of the first n points of the component
abbrev pub IsWideBefore : Constraints → Component → ℕ → ℕ → Type 0
IsWideBefore s c n k = (i : ℕ) × (i < n) × IsWideAt s (slice_index c.points i) k
