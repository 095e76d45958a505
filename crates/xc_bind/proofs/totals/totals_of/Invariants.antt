use Rattle.std.proofs.Common.{◌≡◌, ◌||◌, ℕ, drop}
use Rattle.std.specs.List.{list_any}
use Rattle.xc_bind.specs.Steps.Numbered.{numbers_of}
use Rattle.xc_names.specs.NameSets.{is_among}
use Rattle.xc_bind.proofs.totals.totals_of.Given as goal

-- the numbers so far and those of the concepts that are left are those of all concepts
abbrev pub invariant-loop-concept : goal.invariant-loop-concept
invariant-loop-concept l = (k : ℕ) → (is_among l.totals.keys k || list_any (λ concept. is_among (numbers_of l.points concept) k) (drop l.concept-index l.concept-items))
    ≡ list_any (λ concept. is_among (numbers_of l.points concept) k) l.concept-items
