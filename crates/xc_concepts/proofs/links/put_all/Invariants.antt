use Rattle.std.proofs.Common.{◌≡◌, ◌≤◌, length}
use Rattle.indexmap.specs.IndexMap.{get, spare}
use Rattle.std.specs.Option.{option_or}
use Rattle.std.specs.Vec.Iter.{into_iter_items}
use Rattle.xc_concepts.specs.Steps.Links.{next_of}
use Rattle.xc_concepts.proofs.links.put_all.Given as goal

-- the links so far, and behind them those that are left, are all; there is room for those that are left
abbrev pub invariant-loop-link : goal.invariant-loop-link
invariant-loop-link g l = record {
  room : length (into_iter_items l.link-iterator) ≤ spare l.links;
  left : (key : g.row.K.Denot) → option_or (get g.K.PartialEq.eq l.links key) (next_of g.K.PartialEq.eq key (into_iter_items l.link-iterator)) ≡ option_or (get g.K.PartialEq.eq l.fn.links key) (next_of g.K.PartialEq.eq key l.fn.more.items);
  can : (goal.iterator-loop-link g).can_next l.link-iterator;
  finite : (goal.iterator-loop-link g).is_finite l.link-iterator;
}
