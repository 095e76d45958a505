use Rattle.std.proofs.Common.{map, take}
use Rattle.xc_calc.specs.Steps.{AreByRole}
use Rattle.xc_calc.proofs.networks.by_role.Given as goal

-- the lists have the arcs so far
abbrev pub invariant-loop-listed : goal.invariant-loop-listed
invariant-loop-listed l = AreByRole l.lists (map (λ a. a.now) (take l.listed-index l.arcs))
