use Rattle.std.proofs.Common.{drop}
use Rattle.xc_verdict.proofs.Added.{Summed}
use Rattle.xc_verdict.proofs.sums.sum_of.Given as goal

abbrev pub invariant-loop-term : goal.invariant-loop-term
invariant-loop-term l = Summed l.points l.fn.binding (drop l.term-index l.fn.binding.terms) l.sum
