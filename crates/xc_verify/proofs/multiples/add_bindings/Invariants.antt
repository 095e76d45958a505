use Rattle.std.proofs.Common.{drop}
use Rattle.xc_verify.specs.Infeasible.{binding_terms}
use Rattle.xc_verify.specs.Steps.Running.{sum_at}
use Rattle.xc_verify.proofs.Adding.{Continues}
use Rattle.xc_verify.proofs.multiples.add_bindings.Given as goal

abbrev pub invariant-loop-number : goal.invariant-loop-number
invariant-loop-number l = Continues (binding_terms l.system.equations l.lines) (binding_terms l.system.equations (drop l.number-index l.lines))
    (sum_at l.fn.sums l.fn.stops) (sum_at l.sums l.stops)
