use Rattle.std.proofs.Common.{◌<◌, All, take}
use Rattle.xc_lines.proofs.tests.are_named.Given as goal

-- the bindings so far are named
abbrev pub invariant-loop-binding : goal.invariant-loop-binding
invariant-loop-binding l = All (λ binding. binding.network < l.networks) (take l.binding-index l.bindings) × All (λ binding. binding.total < l.points) (take l.binding-index l.bindings)
