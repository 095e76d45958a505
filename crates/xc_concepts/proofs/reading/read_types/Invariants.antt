use Rattle.std.proofs.Common.{◌≡◌, filter_map}
use Rattle.xc_concepts.specs.Declarations.{named_type_at}
use Rattle.xc_lists.specs.Places.{before}
use Rattle.xc_concepts.proofs.reading.read_types.Given as goal

-- the types of the nodes so far
abbrev pub invariant-loop-at : goal.invariant-loop-at
invariant-loop-at l = l.types.items ≡ filter_map (named_type_at l.tree) (before l.at)
