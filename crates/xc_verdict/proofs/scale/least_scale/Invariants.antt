use Rattle.std.proofs.Common.{drop}
use Rattle.xc_verdict.proofs.LeastScale.{Scaled}
use Rattle.xc_verdict.proofs.scale.least_scale.Given as goal

abbrev pub invariant-loop-term : goal.invariant-loop-term
invariant-loop-term l = Scaled l.points l.fn.binding (drop l.term-index l.fn.binding.terms) l.scale
