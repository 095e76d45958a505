use Rattle.std.proofs.Common.{◌≡◌, ◌++◌, map, drop}
use Rattle.xc_points.specs.Steps.Members.{fact_place}
use Rattle.xc_points.proofs.groups.places_of.Given as goal

-- the places so far, and then those of the facts that are left
abbrev pub invariant-loop-fact : goal.invariant-loop-fact
invariant-loop-fact l = l.places.items ++ map fact_place (drop l.fact-index l.facts) ≡ map fact_place l.facts
