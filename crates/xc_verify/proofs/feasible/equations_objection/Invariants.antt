use Rattle.std.proofs.Common.{ℕ, ◌<◌, None}
use Rattle.xc_system.specs.Systems.{equation_at}
use Rattle.xc_verify.specs.Feasible.{equation_terms}
use Rattle.xc_verify.specs.Objections.{IsMetIn, IsNothing}
use Rattle.xc_verify.specs.declared.types.What.TheVariants.{Binding}
use Rattle.xc_verify.proofs.feasible.equations_objection.Given as goal

-- nothing is met at the equations so far
abbrev pub invariant-loop-number : goal.invariant-loop-number
invariant-loop-number l = (i : ℕ) → i < l.number → IsMetIn (Binding i) IsNothing (equation_terms l.values (equation_at l.system.equations i).entries) None
