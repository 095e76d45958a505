use Rattle.std.proofs.Common.{◌≡◌, length}
use Rattle.xc_elements.specs.Namespaces.{has_double}
use Rattle.xc_elements.proofs.doubles.has_double_of_few.Given as goal

-- what is left has a double where the whole has one
abbrev pub invariant-loop-first : goal.invariant-loop-first
invariant-loop-first l = has_double l.attributes ≡ has_double l.rest

abbrev pub decreases-loop-first : goal.decreases-loop-first
decreases-loop-first l = length l.rest
