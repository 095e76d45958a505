use Rattle.std.proofs.Common.{take}
use Rattle.std.specs.List.{AllZip}
use Rattle.xc_bind.specs.Systems.{IsEquationOf}
use Rattle.xc_bind.proofs.constraints.equations.Given as goal

abbrev pub invariant-loop-binding : goal.invariant-loop-binding
invariant-loop-binding l = AllZip IsEquationOf (take l.binding-index l.bindings) l.equations.items
