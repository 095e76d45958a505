use Rattle.std.proofs.Common.{◌≡◌, ◌++◌, map, drop}
use Rattle.std.specs.List.{zip}
use Rattle.xc_bind.specs.Steps.Owners.{bound_with}
use Rattle.xc_bind.proofs.constraints.bounds.Given as goal

-- the bounds so far, and then those that are left
abbrev pub invariant-loop-fact : goal.invariant-loop-fact
invariant-loop-fact l = l.bounds.items ++ map bound_with (zip (drop l.fact l.owners) (drop l.fact l.ends)) ≡ map bound_with (zip l.owners l.ends)
