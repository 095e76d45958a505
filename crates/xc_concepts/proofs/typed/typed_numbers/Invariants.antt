use Rattle.std.proofs.Common.{◌≡◌, ◌||◌, ℕ, drop}
use Rattle.xc_concepts.specs.Held.{is_typed}
use Rattle.xc_names.specs.NameSets.{is_among}
use Rattle.xc_concepts.proofs.typed.typed_numbers.Given as goal

-- the numbers so far and those that are left are all
abbrev pub invariant-loop-schema : goal.invariant-loop-schema
invariant-loop-schema l = (n : ℕ) → (is_among l.numbers n || is_typed (drop l.schema-index l.schemas) n) ≡ is_typed l.schemas n
