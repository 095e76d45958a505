use Rattle.std.proofs.Common.{ℕ, ◌<◌, get_or}
use Rattle.std.specs.Prelude.{All}
use Rattle.xc_system.specs.Forests.{IsUnit}
use Rattle.xc_system.specs.Systems.{equation_at}
use Rattle.xc_system.proofs.forests.have_unit_weights.Given as goal

abbrev pub invariant-loop-number : goal.invariant-loop-number
invariant-loop-number l = (k d : ℕ) → k < l.number-index → All (λ entry. IsUnit entry.weight) (equation_at l.system.equations (get_or l.number-items k d)).entries
