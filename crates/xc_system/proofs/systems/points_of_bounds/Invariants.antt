use Rattle.std.proofs.Common.{◌≡◌, ◌++◌, map, drop}
use Rattle.xc_system.proofs.systems.points_of_bounds.Given as goal

-- the points so far, and then those of the bounds that are left
abbrev pub invariant-loop-bound : goal.invariant-loop-bound
invariant-loop-bound l = l.points.items ++ map (λ bound. bound.point) (drop l.bound-index l.bounds) ≡ map (λ bound. bound.point) l.bounds
