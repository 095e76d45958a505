use Rattle.std.proofs.Common.{◌≡◌, ◌++◌, map}
use Rattle.std.specs.List.{zip}
use Rattle.std.specs.Vec.Iter.{into_iter_items}
use Rattle.xc_system.specs.Steps.Owned.{component_of}
use Rattle.xc_system.proofs.linking.pair_with_equations.Given as goal

-- the components so far, and then those of what is left
abbrev pub invariant-loop-points : goal.invariant-loop-points
invariant-loop-points l = l.components.items ++ map component_of (zip (into_iter_items l.points-iterator) (into_iter_items l.rest)) ≡ map component_of (zip l.fn.points.items l.fn.equations.items)
