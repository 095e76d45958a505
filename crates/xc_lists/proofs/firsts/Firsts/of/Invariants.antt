use Rattle.std.proofs.Common.{◌≡◌, ◌++◌, take, drop, map}
use Rattle.std.specs.BTreeMap.{get}
use Rattle.xc_lists.specs.Firsts.{first_or_len, first_places}
use Rattle.xc_lists.specs.Steps.Indexed.{IsIndex}
use Rattle.xc_lists.proofs.firsts.Firsts.of.Given as goal

abbrev pub invariant-loop-at : goal.invariant-loop-at
invariant-loop-at g l = record {
  index : IsIndex g.K.Ord.cmp (get g.K.Ord.cmp l.places) (take l.at l.item-items);
  firsts : l.firsts.items ++ map (λ item. first_or_len g.K.Ord.cmp item l.item-items) (drop l.at l.item-items) ≡ first_places g.K.Ord.cmp l.item-items;
}
