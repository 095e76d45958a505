use Rattle.std.proofs.Common.{◌≡◌, ◌++◌, drop}
use Rattle.xc_calc.specs.Linked.{arcs_between}
use Rattle.xc_calc.specs.Steps.{drawn_view}
use Rattle.xc_calc.proofs.linked.add_between.Given as goal

-- the arcs so far and those that are left are all
abbrev pub invariant-loop-source : goal.invariant-loop-source
invariant-loop-source l = l.arcs.items ++ arcs_between (drawn_view l.drawn) (drop l.source-index l.from) l.to ≡ l.fn.arcs.items ++ arcs_between (drawn_view l.drawn) l.from l.to
