-- How points that are linked are found: each points to a lesser one that is linked with it, or to itself.
use Rattle.std.specs.Prelude.{◌≡◌, ◌==◌, ◌+◌, ◌<◌, ◌≤◌, ℕ, zero, suc, List, length, slice_index, min, max, if◌then◌else◌}
use Rattle.xc_system.specs.Components.{HasPoint, IsLinked}
use Rattle.xc_system.specs.declared.types.Equation.{Equation}

-- each number points to itself or to a lesser one
abbrev pub Descends : List ℕ → Type 0
Descends up = (q : ℕ) → q < length up → slice_index up q ≤ q

-- the function gives the root of each number
pub record IsRoots (up : List ℕ) (root : ℕ → ℕ) : Type 0 where
  pub kept : (q : ℕ) → q < length up → root (slice_index up q) ≡ root q
  pub own : (q : ℕ) → q < length up → slice_index up q ≡ q → root q ≡ q

-- the roots once a and b are joined: the lesser of their two roots stands for both
abbrev pub roots_after_join : (ℕ → ℕ) → ℕ → ℕ → ℕ → ℕ
roots_after_join root a b q = if root q == max (root a) (root b) then min (root a) (root b) else root q

-- the points of the equations before number i have one root each, and nothing has one that is not linked
pub record IsJoined (equations : List Equation) (i : ℕ) (up : List ℕ) : Type 0 where
  pub descends : Descends up
  pub root : ℕ → ℕ
  pub roots : IsRoots up root
  pub linked : (p : ℕ) → p < length up → IsLinked equations p (root p)
  pub joined : (k p q : ℕ) → k < i → HasPoint equations k p → HasPoint equations k q → root p ≡ root q

-- how many numbers below q point to themselves
abbrev pub rank : List ℕ → ℕ → ℕ
rank up zero = 0
rank up (suc q) = rank up q + (if slice_index up q == q then 1 else 0)
