use Rattle.std.proofs.Common.{◌<◌, ℕ, get_or}
use Rattle.xc_model.specs.Ratio.{Ratio}
use Rattle.xc_shown.proofs.walks.names_ranges.Given as goal

abbrev pub invariant-loop-place : goal.invariant-loop-place
invariant-loop-place l = record { some : (k : ℕ) (d : ℕ × Ratio) → k < l.place → (get_or l.row k d).0 < l.count }
