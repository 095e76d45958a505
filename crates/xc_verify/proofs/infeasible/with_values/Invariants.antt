use Rattle.std.proofs.Common.{Result, drop}
use Rattle.xc_frac.specs.declared.wide.Wide.{Wide}
use Rattle.xc_model.specs.Ratio.{Ratio}
use Rattle.xc_verify.specs.Infeasible.{value_terms}
use Rattle.xc_verify.specs.Sums.{IsSum}
use Rattle.xc_verify.proofs.infeasible.with_values.Given as goal

-- the sum so far, with the terms of the lines that are left, ends as the sum of all does
abbrev pub invariant-loop-fact : goal.invariant-loop-fact
invariant-loop-fact l = (end : Result Ratio Wide) → IsSum l.sum (value_terms l.side l.bounds (drop l.fact-index l.lines)) end → IsSum l.fn.start (value_terms l.side l.bounds l.lines) end
