use Rattle.std.proofs.Common.{◌≡◌, ◌-◌, length, flat_map}
use Rattle.std.specs.List.{range_with_len}
use Rattle.xc_calc.specs.Linked.{arcs_at}
use Rattle.xc_calc.specs.Rules.{broken_at}
use Rattle.xc_lists.specs.Places.{before, places, first_given}
use Rattle.xc_calc.proofs.linked.arcs_in.Given as goal

-- the arcs of the nodes so far, of which none breaks a rule
abbrev pub invariant-loop-at : goal.invariant-loop-at
invariant-loop-at l = record {
  arcs : l.arcs.items ≡ flat_map (arcs_at l.kind l.concepts l.tree) (before l.at);
  left : first_given (broken_at l.kind l.concepts l.tree) (range_with_len l.at (length l.tree - l.at)) ≡ first_given (broken_at l.kind l.concepts l.tree) (places l.tree);
}
