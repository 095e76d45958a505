use Rattle.std.proofs.Common.{◌≡◌, ◌++◌, drop}
use Rattle.xc_calc.proofs.common.keyed_arcs.Given as goal

-- the arcs so far and those that are left are all
abbrev pub invariant-loop-arc : goal.invariant-loop-arc
invariant-loop-arc l = l.keyed.items ++ drop l.arc-index l.arcs ≡ l.arcs
