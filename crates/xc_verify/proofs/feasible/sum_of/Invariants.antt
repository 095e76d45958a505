use Rattle.std.proofs.Common.{Result, Ok, drop}
use Rattle.xc_frac.specs.declared.wide.Wide.{Wide}
use Rattle.xc_model.specs.Ratio.{Ratio}
use Rattle.xc_verify.specs.Feasible.{equation_terms}
use Rattle.xc_verify.specs.Sums.{IsSum, zero_ratio}
use Rattle.xc_verify.proofs.feasible.sum_of.Given as goal

-- the sum so far, with the terms of the entries that are left, ends as the sum of all does
abbrev pub invariant-loop-entry : goal.invariant-loop-entry
invariant-loop-entry l = (end : Result Ratio Wide) → IsSum l.sum (equation_terms l.values (drop l.entry-index l.entries)) end → IsSum (Ok zero_ratio) (equation_terms l.values l.entries) end
