use Rattle.std.proofs.Common.{◌<◌, ℕ, get_or}
use Rattle.xc_interval.specs.Intervals.{HasNoNumber, numbers_of}
use Rattle.xc_interval.specs.declared.interval.Interval.{Interval}
use Rattle.xc_model.specs.Ratio.{Ratio}
use Rattle.xc_shown.proofs.walks.have_values.Given as goal

abbrev pub invariant-loop-place : goal.invariant-loop-place
invariant-loop-place l = record { some : (k : ℕ) (d : Interval Ratio) → k < l.place → ¬ HasNoNumber (numbers_of (get_or l.ranges k d)) }
