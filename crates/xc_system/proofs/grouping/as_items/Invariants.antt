use Rattle.std.proofs.Common.{◌≡◌, ◌++◌, map}
use Rattle.std.specs.Vec.Iter.{into_iter_items}
use Rattle.xc_system.proofs.grouping.as_items.Given as goal

-- the lists so far, and then those that are left
abbrev pub invariant-loop-group : goal.invariant-loop-group
invariant-loop-group l = l.lent.items ++ map (λ group. group.items) (into_iter_items l.group-iterator) ≡ map (λ group. group.items) l.fn.groups.items
