use Rattle.std.proofs.Common.{◌≡◌, ◌++◌, drop, map}
use Rattle.xc_points.specs.Places.{place_of}
use Rattle.xc_bind.proofs.point_index.places_of.Given as goal

-- the places so far, and then those of the points that are left
abbrev pub invariant-loop-point : goal.invariant-loop-point
invariant-loop-point l = l.places.items ++ map place_of (drop l.point-index l.points) ≡ map place_of l.points
