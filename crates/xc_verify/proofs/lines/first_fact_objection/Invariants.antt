use Rattle.std.proofs.Common.{◌≡◌, drop}
use Rattle.xc_lists.specs.Places.{first_given}
use Rattle.xc_verify.specs.Infeasible.{fact_objection}
use Rattle.xc_verify.proofs.lines.first_fact_objection.Given as goal

-- what is left has the same first
abbrev pub invariant-loop-fact : goal.invariant-loop-fact
invariant-loop-fact l = first_given (λ m. fact_objection l.bounds m.0) (drop l.fact-index l.lines) ≡ first_given (λ m. fact_objection l.bounds m.0) l.lines
