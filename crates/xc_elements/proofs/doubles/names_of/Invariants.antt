use Rattle.std.proofs.Common.{◌≡◌, ◌++◌, map, drop}
use Rattle.xc_elements.specs.Steps.Doubles.{name_parts}
use Rattle.xc_lists.specs.Doubles.{lent_texts}
use Rattle.xc_elements.proofs.doubles.names_of.Given as goal

-- the names so far, and those that are left
abbrev pub invariant-loop-attribute : goal.invariant-loop-attribute
invariant-loop-attribute l = map lent_texts l.names.items ++ map name_parts (drop l.attribute-index l.attributes) ≡ map name_parts l.attributes
