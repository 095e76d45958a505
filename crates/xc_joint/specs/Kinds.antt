-- Of which kind an answer to the joint question is.
use Rattle.std.specs.Prelude.{◌≡◌}
use Rattle.xc_joint.specs.Answers.{IsAnswer}
use Rattle.xc_joint.specs.declared.types.Joint.{Joint}
use Rattle.xc_joint.specs.declared.types.Joint.TheVariants.{Settled, TooWide}
use Rattle.xc_system.specs.Systems.{Constraints, IsSystem}
use Rattle.xc_system.specs.declared.types.Certificate.TheVariants.{Feasible, Infeasible}

-- values exist, none do, or some component has no answer
pub data Kind : Type 0 where
  Solved : Kind
  Contradicted : Kind
  Caused : Kind

-- the kind of an answer
abbrev pub kind_of : Joint → Kind
kind_of (Settled (Feasible values)) = Solved
kind_of (Settled (Infeasible r)) = Contradicted
kind_of (TooWide parts) = Caused

-- all answers to a system are of one kind
abbrev pub HasOneKind : Type 0
HasOneKind = (s : Constraints) (a b : Joint) → IsSystem s → IsAnswer s a → IsAnswer s b → kind_of a ≡ kind_of b
