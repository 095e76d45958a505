use Rattle.std.proofs.Common.{◌<◌, ℕ, get_or, List, All}
use Rattle.xc_model.specs.Ratio.{Ratio}
use Rattle.xc_shown.proofs.walks.name_ranges.Given as goal

abbrev pub invariant-loop-place : goal.invariant-loop-place
invariant-loop-place l = record { some : (k : ℕ) (d : List (ℕ × Ratio)) → k < l.place → All (λ entry. entry.0 < l.count) (get_or l.rows k d) }
