use Rattle.std.proofs.Common.{◌≡◌, ◌-◌, filter_map, length, codes}
use Rattle.std.specs.List.{range_with_len}
use Rattle.xc_lists.specs.Places.{before, places, first_place}
use Rattle.xc_concepts.specs.Rules.{repeats_concept}
use Rattle.xc_concepts.specs.Schemas.{top_name}
use Rattle.xc_concepts.specs.Steps.{AreTexts}
use Rattle.xc_concepts.proofs.rules.first_repeated_concept.Given as goal

-- the names of the concepts so far, of which none is repeated
abbrev pub invariant-loop-at : goal.invariant-loop-at
invariant-loop-at l = record {
  names : AreTexts l.locals.keys (filter_map (top_name l.tree (codes "element")) (before l.at));
  left : first_place (repeats_concept l.concepts l.tree) (range_with_len l.at (length l.tree - l.at)) ≡ first_place (repeats_concept l.concepts l.tree) (places l.tree);
}
