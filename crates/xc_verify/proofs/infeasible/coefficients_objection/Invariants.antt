use Rattle.std.proofs.Common.{ℕ, ◌<◌, None}
use Rattle.xc_verify.specs.Infeasible.{coefficient_terms}
use Rattle.xc_verify.specs.Objections.{IsMetIn, IsNothing}
use Rattle.xc_verify.specs.declared.types.What.TheVariants.{Point}
use Rattle.xc_verify.proofs.infeasible.coefficients_objection.Given as goal

-- nothing is met at the points so far
abbrev pub invariant-loop-point : goal.invariant-loop-point
invariant-loop-point l = (p : ℕ) → p < l.point → IsMetIn (Point p) IsNothing (coefficient_terms l.system l.refutation p) None
