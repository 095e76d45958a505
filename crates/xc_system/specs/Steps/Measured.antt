-- What is summed up and multiplied over lists of facts, and over lists of equations.
use Rattle.std.specs.Prelude.{ℕ, List, length, IsSomeAnd, All, sum_by}
use Rattle.std.specs.Option.{option_map_or}
use Rattle.xc_interval.specs.Scales.{HasEndsOnScale, greatest_end}
use Rattle.xc_system.specs.Systems.{range_at, facts_of, equation_at}
use Rattle.xc_system.specs.declared.types.Bound.{Bound}
use Rattle.xc_system.specs.declared.types.Equation.{Equation}

-- the fact is not wide, and d is a common multiple of the denominators of its ends
abbrev pub IsOver : List Bound → ℕ → ℕ → Type 0
IsOver bounds k d = IsSomeAnd (range_at bounds k) (HasEndsOnScale d)

-- so are these facts
abbrev pub AreOver : List Bound → List ℕ → ℕ → Type 0
AreOver bounds facts d = All (λ k. IsOver bounds k d) facts

-- and so are all facts of these points
abbrev pub ArePointsOver : List Bound → List ℕ → ℕ → Type 0
ArePointsOver bounds points d = All (λ p. AreOver bounds (facts_of bounds p) d) points

-- the greater magnitude of the two ends of a fact, times d
abbrev pub reach_at : List Bound → ℕ → ℕ → ℕ
reach_at bounds d k = option_map_or (greatest_end d) (range_at bounds k) 0

-- how many entries these equations have
abbrev pub entries_of : List Equation → List ℕ → ℕ
entries_of equations numbers = sum_by (λ i. length (equation_at equations i).entries) numbers
