-- What is met first.
use Rattle.std.proofs.Common.{◌≡◌, Option, Some, None, inl, inr, subst}
use Rattle.xc_system.specs.Kept.{Multipliers}
use Rattle.xc_system.specs.Systems.{Constraints}
use Rattle.xc_verify.specs.Infeasible.{FallsShort, IsRefutationMet, coefficient_terms, constant_terms, line_objection}
use Rattle.xc_verify.specs.Objections.{IsFirstOf, IsFirstBelow, IsMetIn, IsNothing}
use Rattle.xc_verify.specs.declared.types.Objection.{Objection}
use Rattle.xc_verify.specs.declared.types.What.TheVariants.{Point, Constant}

-- where nothing is met in the one, what is met in the other is first
first_of_other : (one other : Option Objection → Type 0) (met : Option Objection) → one None → other met → IsFirstOf one other met
first_of_other one other None h k = (h, k)
first_of_other one other (Some o) h k = inr (h, k)

-- what is met first behind the lines
module _ (s : Constraints) (r : Multipliers) (none : None ≡ line_objection s r) where
  abbrev AtPoints : Option Objection → Type 0
  AtPoints met = IsFirstBelow s.points (λ p m. IsMetIn (Point p) IsNothing (coefficient_terms s r p) m) met

  abbrev AtConstant : Option Objection → Type 0
  AtConstant met = IsMetIn Constant (FallsShort s r) (constant_terms s r) met

  pub met_at_points : (met : Option Objection) (o : Objection) → AtPoints met → met ≡ Some o → IsRefutationMet s r (Some o)
  met_at_points met o h e = inr (none, inl (subst AtPoints e h))

  pub met_at_constant : (at met : Option Objection) → AtPoints at → at ≡ None → AtConstant met → IsRefutationMet s r met
  met_at_constant at met h e k = first_of_other (λ o. o ≡ line_objection s r) (IsFirstOf AtPoints AtConstant) met none (first_of_other AtPoints AtConstant met (subst AtPoints e h) k)
