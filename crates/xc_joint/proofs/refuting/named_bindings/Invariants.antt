use Rattle.std.proofs.Common.{◌≡◌, ◌++◌, drop}
use Rattle.xc_joint.specs.Steps.Multiplied.{named_bindings}
use Rattle.xc_joint.proofs.refuting.named_bindings.Given as goal

abbrev pub invariant-loop-number : goal.invariant-loop-number
invariant-loop-number l = l.bindings.items ++ named_bindings (drop l.number l.equations) (drop l.number l.by) ≡ named_bindings l.equations l.by
