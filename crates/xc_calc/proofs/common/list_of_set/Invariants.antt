use Rattle.std.proofs.Common.{◌≡◌, ◌++◌}
use Rattle.xc_calc.proofs.common.list_of_set.Given as goal

-- those so far and those that are left are all
abbrev pub invariant-loop-attribute : goal.invariant-loop-attribute
invariant-loop-attribute l = l.list.items ++ l.attribute-iterator ≡ l.set.keys
