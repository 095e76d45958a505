use Rattle.std.proofs.Common.{◌≡◌, List, ◌++◌, drop, map}
use Rattle.xc_interval.specs.declared.interval.Interval.{Interval}
use Rattle.xc_frac.specs.declared.delta.Delta.{Delta}
use Rattle.xc_model.specs.Ratio.{Ratio}
use Rattle.xc_joint.specs.Small.{closed_pairs, pairs}
use Rattle.xc_joint.proofs.closed.closed_ranges.Given as goal

-- the ranges so far, with those that are left, are all
abbrev pub invariant-loop-range : goal.invariant-loop-range
invariant-loop-range l = (rest : List (Interval (Delta Ratio))) → map pairs rest ≡ map closed_pairs (drop l.range-index l.ranges) → map pairs (l.closed.items ++ rest) ≡ map closed_pairs l.ranges
