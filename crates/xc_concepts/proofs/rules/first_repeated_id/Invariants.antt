use Rattle.std.proofs.Common.{◌≡◌, ◌-◌, filter_map, length}
use Rattle.std.specs.List.{range_with_len}
use Rattle.xc_lists.specs.Places.{before, places, first_place}
use Rattle.xc_concepts.specs.Rules.{id_at, repeats_id}
use Rattle.xc_concepts.specs.Steps.{AreTexts}
use Rattle.xc_concepts.proofs.rules.first_repeated_id.Given as goal

-- the ids of the nodes so far, of which none is repeated
abbrev pub invariant-loop-at : goal.invariant-loop-at
invariant-loop-at l = record {
  ids : AreTexts l.ids.keys (filter_map (id_at l.tree) (before l.at));
  left : first_place (repeats_id l.tree) (range_with_len l.at (length l.tree - l.at)) ≡ first_place (repeats_id l.tree) (places l.tree);
}
