use Rattle.std.proofs.Common.{◌≡◌, All, map, filter_map}
use Rattle.xc_concepts.specs.Declarations.{declared_at}
use Rattle.xc_concepts.specs.Held.{IsHeld}
use Rattle.xc_lists.specs.Places.{before}
use Rattle.xc_names.specs.Names.{KeepsNumbers}
use Rattle.xc_concepts.proofs.reading.read_concepts.Given as goal

-- the concepts of the nodes so far, with their numbers
abbrev pub invariant-loop-at : goal.invariant-loop-at
invariant-loop-at l = record {
  declared : map (λ c. c.declared) l.concepts.items ≡ filter_map (declared_at l.tree) (before l.at);
  held : All (IsHeld l.names) l.concepts.items;
  kept : KeepsNumbers l.fn.names l.names;
}
