use Rattle.std.proofs.Common.{◌≡◌, ◌++◌, drop, flat_map}
use Rattle.std.specs.List.{enumerate_from}
use Rattle.xc_bind.specs.Bindings.{bindings_in, bindings_of}
use Rattle.xc_bind.proofs.bound.bindings.Given as goal

-- the bindings so far, and then those of the networks that are left
abbrev pub invariant-loop-at : goal.invariant-loop-at
invariant-loop-at l = l.list.items ++ flat_map (bindings_in l.points.points) (enumerate_from l.at (drop l.at l.networks)) ≡ bindings_of l.networks l.points.points
