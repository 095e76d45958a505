use Rattle.std.proofs.Common.{◌≡◌, ◌++◌, map, drop}
use Rattle.xc_system.specs.Steps.Owned.{owner_of}
use Rattle.xc_system.proofs.linking.owners.Given as goal

-- the owners so far, and then those of the equations that are left
abbrev pub invariant-loop-equation : goal.invariant-loop-equation
invariant-loop-equation l = l.owners.items ++ map (owner_of l.numbers l.none) (drop l.equation-index l.equations) ≡ map (owner_of l.numbers l.none) l.equations
