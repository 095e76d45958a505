use Rattle.std.specs.List.{AllWithin}
use Rattle.std.proofs.Common.{◌<◌}
use Rattle.xc_bind.specs.declared.types.Term.{Term}
use Rattle.xc_verdict.proofs.tests.are_inside.Given as goal

abbrev pub invariant-loop-term : goal.invariant-loop-term
invariant-loop-term l = AllWithin (λ (term : Term). term.point < l.count) l.terms 0 l.term-index
