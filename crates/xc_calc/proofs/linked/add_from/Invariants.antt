use Rattle.std.proofs.Common.{◌≡◌, ◌++◌, drop, map}
use Rattle.xc_calc.specs.Linked.{arc_between}
use Rattle.xc_calc.specs.Steps.{drawn_view}
use Rattle.xc_calc.proofs.linked.add_from.Given as goal

-- the arcs so far and those that are left are all
abbrev pub invariant-loop-target : goal.invariant-loop-target
invariant-loop-target l = l.arcs.items ++ map (arc_between (drawn_view l.drawn) l.from) (drop l.target-index l.to) ≡ l.fn.arcs.items ++ map (arc_between (drawn_view l.drawn) l.from) l.to
