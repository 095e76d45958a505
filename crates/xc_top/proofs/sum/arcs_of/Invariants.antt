use Rattle.std.proofs.Common.{◌≡◌, ◌++◌, drop, map}
use Rattle.std.specs.List.{zip}
use Rattle.xc_top.specs.Sums.{arc_to}
use Rattle.xc_top.specs.Words.{texts}
use Rattle.xc_top.proofs.sum.arcs_of.Given as goal

-- the arcs so far, and then those of the contributors that are left
abbrev pub invariant-loop-term : goal.invariant-loop-term
invariant-loop-term l = l.arcs.items ++ map (arc_to l.total) (zip (texts (drop l.term-index l.terms)) l.left) ≡ map (arc_to l.total) (zip (texts l.terms) l.ids)
