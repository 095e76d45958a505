use Rattle.std.proofs.Common.{◌≡◌, ◌||◌, ℕ, drop}
use Rattle.std.specs.List.{list_any}
use Rattle.xc_concepts.specs.Held.{is_typed_as}
use Rattle.xc_names.specs.NameSets.{is_among}
use Rattle.xc_concepts.proofs.typed.note_all_typed.Given as goal

-- the numbers so far and those that are left are all
abbrev pub invariant-loop-concept : goal.invariant-loop-concept
invariant-loop-concept l = (n : ℕ) → (is_among l.numbers n || list_any (is_typed_as n) (drop l.concept-index l.concepts)) ≡ (is_among l.fn.numbers n || list_any (is_typed_as n) l.concepts)
