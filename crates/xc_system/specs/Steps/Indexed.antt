-- A system with the facts of each point at hand.
use Rattle.std.specs.Prelude.{◌≡◌, ℕ, List, map}
use Rattle.xc_lists.specs.Places.{before}
use Rattle.xc_system.specs.Systems.{Constraints, IsSystem, IsSmall, facts_of}
use Rattle.xc_system.specs.declared.types.Bound.{Bound}

-- for each point its facts
abbrev pub IsIndexOf : List (List ℕ) → ℕ → List Bound → Type 0
IsIndexOf facts points bounds = facts ≡ map (facts_of bounds) (before points)

-- what is kept of a system and its index
pub record IsIndexed (s : Constraints) (facts : List (List ℕ)) : Type 0 where
  pub system : IsSystem s
  pub small : IsSmall s
  pub index : IsIndexOf facts s.points s.bounds
