use Rattle.std.proofs.Common.{drop}
use Rattle.xc_verify.specs.Infeasible.{end_terms}
use Rattle.xc_verify.specs.Steps.Running.{sum_at}
use Rattle.xc_verify.proofs.Adding.{Continues}
use Rattle.xc_verify.proofs.multiples.add_ends.Given as goal

abbrev pub invariant-loop-fact : goal.invariant-loop-fact
invariant-loop-fact l = Continues (end_terms l.side l.system.bounds l.lines) (end_terms l.side l.system.bounds (drop l.fact-index l.lines))
    (sum_at l.fn.sums l.fn.stops) (sum_at l.sums l.stops)
