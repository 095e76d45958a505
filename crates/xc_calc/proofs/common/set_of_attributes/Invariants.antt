use Rattle.std.proofs.Common.{◌≡◌, drop, map}
use Rattle.xc_calc.specs.Steps.Sets.{attribute_of, in_order, put_all}
use Rattle.xc_calc.proofs.common.set_of_attributes.Given as goal

-- the set so far with those that are left
abbrev pub invariant-loop-attribute : goal.invariant-loop-attribute
invariant-loop-attribute l = put_all (map attribute_of l.set.keys) (drop l.attribute-index l.attributes) ≡ in_order l.attributes
