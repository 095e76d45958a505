use Rattle.std.proofs.Common.{ℕ, ◌<◌, slice_index}
use Rattle.std.specs.Prelude.{Ok}
use Rattle.xc_model.specs.Ratio.{Ratio}
use Rattle.xc_system.specs.Systems.{equation_at}
use Rattle.xc_verify.specs.Feasible.{equation_terms}
use Rattle.xc_verify.specs.Sums.{IsSumOf}
use Rattle.xc_joint.proofs.by_corners.first_passing_operation.Given as goal

-- no operation passes in the sums so far
abbrev pub invariant-loop-number : goal.invariant-loop-number
invariant-loop-number l = (k : ℕ) → k < l.number-index → (x : Ratio) × IsSumOf (equation_terms l.values (equation_at l.system.equations (slice_index l.component.equations k)).entries) (Ok x)
