use Rattle.std.proofs.Common.{ℕ, ◌<◌, get_or}
use Rattle.xc_interval.specs.Scales.{IsMultipleOf}
use Rattle.xc_system.specs.Steps.Measured.{IsOver}
use Rattle.xc_system.proofs.forests.scale_with.Given as goal

-- over the facts so far
abbrev pub invariant-loop-fact : goal.invariant-loop-fact
invariant-loop-fact l = IsMultipleOf l.scale (λ m. (k d : ℕ) → k < l.fact-index → IsOver l.bounds (get_or l.facts k d) m) l.so_far
