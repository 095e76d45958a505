use Rattle.std.proofs.Common.{ℕ, ◌<◌, get_or}
use Rattle.std.specs.Prelude.{All}
use Rattle.xc_system.specs.declared.types.Equation.{Equation}
use Rattle.xc_system.proofs.tests.are_equations_named.Given as goal

abbrev pub invariant-loop-equation : goal.invariant-loop-equation
invariant-loop-equation l = (k : ℕ) (d : Equation) → k < l.equation-index → All (λ entry. entry.point < l.points) (get_or l.equations k d).entries
