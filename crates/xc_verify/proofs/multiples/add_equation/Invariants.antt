use Rattle.std.proofs.Common.{drop}
use Rattle.xc_system.specs.Systems.{equation_at}
use Rattle.xc_verify.specs.Infeasible.{entry_terms}
use Rattle.xc_verify.specs.Steps.Running.{sum_at}
use Rattle.xc_verify.proofs.Adding.{Continues}
use Rattle.xc_verify.proofs.multiples.add_equation.Given as goal

abbrev pub invariant-loop-entry : goal.invariant-loop-entry
invariant-loop-entry l = Continues (entry_terms l.factor (equation_at l.system.equations l.number).entries) (entry_terms l.factor (drop l.entry-index (equation_at l.system.equations l.number).entries))
    (sum_at l.fn.sums l.fn.stops) (sum_at l.sums l.stops)
