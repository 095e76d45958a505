use Rattle.std.proofs.Common.{◌≡◌, drop}
use Rattle.std.specs.Option.{option_or}
use Rattle.xc_concepts.specs.Steps.Links.{as_name, is_same_type, next_of, next_name, base_of}
use Rattle.xc_concepts.specs.declared.links.TypeName.{TypeName}
use Rattle.xc_concepts.proofs.links.type_links.Given as goal

-- the links so far, and behind them the types that are left, are all
abbrev pub invariant-loop-named : goal.invariant-loop-named
invariant-loop-named l = (name : TypeName) → option_or (next_name (next_of is_same_type name l.links.items)) (base_of (drop l.named-index l.types) (as_name name)) ≡ base_of l.types (as_name name)
