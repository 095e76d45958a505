use Rattle.std.proofs.Common.{◌≡◌, ℕ, nat_eq, drop}
use Rattle.std.specs.Option.{option_or}
use Rattle.xc_concepts.specs.Steps.Links.{next_of, next_name, first_type_of}
use Rattle.xc_concepts.proofs.links.concept_links.Given as goal

-- the links so far, and behind them the concepts that are left, are all
abbrev pub invariant-loop-concept : goal.invariant-loop-concept
invariant-loop-concept l = (number : ℕ) → option_or (next_name (next_of nat_eq number l.links.items)) (first_type_of number (drop l.concept-index l.concepts)) ≡ first_type_of number l.concepts
