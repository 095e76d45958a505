use Rattle.std.proofs.Common.{◌≡◌, ℕ, List, drop}
use Rattle.std.specs.BTreeMap.{get_by_text}
use Rattle.std.specs.Option.{option_or}
use Rattle.xc_concepts.specs.Steps.Ids.{number_with_id}
use Rattle.xc_concepts.proofs.ids.numbers_by_id.Given as goal

-- the numbers so far, and behind them those of the concepts that are left, are all
abbrev pub invariant-loop-concept : goal.invariant-loop-concept
invariant-loop-concept l = (id : List ℕ) → option_or (get_by_text l.numbers id) (number_with_id (drop l.concept-index l.concepts) id) ≡ number_with_id l.concepts id
