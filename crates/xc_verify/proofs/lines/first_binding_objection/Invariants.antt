use Rattle.std.proofs.Common.{◌≡◌, drop}
use Rattle.xc_lists.specs.Places.{first_given}
use Rattle.xc_verify.specs.Infeasible.{binding_objection}
use Rattle.xc_verify.proofs.lines.first_binding_objection.Given as goal

-- what is left has the same first
abbrev pub invariant-loop-number : goal.invariant-loop-number
invariant-loop-number l = first_given (λ m. binding_objection l.equations m.0) (drop l.number-index l.lines) ≡ first_given (λ m. binding_objection l.equations m.0) l.lines
