use Rattle.std.proofs.Common.{◌≡◌, ◌-◌, length}
use Rattle.std.specs.List.{range_with_len}
use Rattle.xc_lists.specs.Places.{places, first_given}
use Rattle.xc_concepts.specs.References.{base_of_restriction}
use Rattle.xc_concepts.specs.Steps.{restricted_node}
use Rattle.xc_concepts.proofs.references.first_base.Given as goal

-- what is left to look at has the same first
abbrev pub invariant-loop-at : goal.invariant-loop-at
invariant-loop-at l = first_given (base_of_restriction l.tree (restricted_node l.tree l.restricted) l.element) (range_with_len l.at (length l.tree - l.at)) ≡ first_given (base_of_restriction l.tree (restricted_node l.tree l.restricted) l.element) (places l.tree)
