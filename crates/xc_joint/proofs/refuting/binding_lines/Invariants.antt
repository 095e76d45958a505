use Rattle.xc_joint.specs.Steps.Multiplied.{IsSigned}
use Rattle.xc_joint.proofs.Each.{EachSoFar}
use Rattle.xc_joint.proofs.refuting.binding_lines.Given as goal

abbrev pub invariant-loop-binding : goal.invariant-loop-binding
invariant-loop-binding l = EachSoFar IsSigned l.bindings l.binding-index l.listed.items
