use Rattle.std.proofs.Common.{◌≡◌, ◌++◌, drop, filter}
use Rattle.xc_calc.specs.Attributes.{is_other}
use Rattle.xc_calc.proofs.attributes.others.Given as goal

-- the others so far and those that are left are all
abbrev pub invariant-loop-attribute : goal.invariant-loop-attribute
invariant-loop-attribute l = l.others.items ++ filter is_other (drop l.attribute-index l.attributes) ≡ filter is_other l.attributes
