use Rattle.std.proofs.Common.{◌≡◌, ◌++◌, ℕ, drop}
use Rattle.xc_bind.specs.Steps.Numbered.{kept_of, numbers_from}
use Rattle.xc_bind.proofs.point_index.numbers_by_concept.Given as goal

-- for each concept the numbers so far, and then those of the points that are left
abbrev pub invariant-loop-number : goal.invariant-loop-number
invariant-loop-number l = (concept : ℕ) → kept_of l.numbers concept ++ numbers_from concept l.number (drop l.number l.points) ≡ numbers_from concept 0 l.points
