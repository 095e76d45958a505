use Rattle.std.proofs.Common.{◌≡◌, ◌==◌, ◌||◌, ℕ, drop}
use Rattle.std.specs.List.{list_any}
use Rattle.xc_names.specs.NameSets.{is_among}
use Rattle.xc_bind.proofs.totals.total_concepts.Given as goal

-- the concepts so far and those of the arcs that are left are all
abbrev pub invariant-loop-arc : goal.invariant-loop-arc
invariant-loop-arc l = (n : ℕ) → (is_among l.concepts n || list_any (λ arc. arc.from.0 == n) (drop l.arc-index l.arcs)) ≡ list_any (λ arc. arc.from.0 == n) l.arcs
