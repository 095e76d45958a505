use Rattle.std.proofs.Common.{List, ◌++◌, drop}
use Rattle.xc_joint.specs.Lists.{AreEach}
use Rattle.xc_joint.specs.Steps.OneForest.{IsRangeOf}
use Rattle.xc_interval.specs.declared.interval.Interval.{Interval}
use Rattle.xc_model.specs.Ratio.{Ratio}
use Rattle.xc_joint.proofs.one_forest.ranges.Given as goal

-- what is made so far, with what is made of those that are left, is what is made of all
abbrev pub invariant-loop-span : goal.invariant-loop-span
invariant-loop-span l = (rest : List (Interval Ratio)) → AreEach (IsRangeOf l.system) (drop l.span-index l.spans) rest → AreEach (IsRangeOf l.system) l.spans (l.ranges.items ++ rest)
