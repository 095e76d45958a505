use Rattle.std.proofs.Common.{List, ◌++◌, drop}
use Rattle.xc_joint.specs.Lists.{AreEach}
use Rattle.xc_joint.specs.Steps.OneForest.{IsSpanOf}
use Rattle.xc_joint.specs.declared.one_forest.Span.{Span}
use Rattle.xc_joint.proofs.one_forest.spans.Given as goal

-- what is made so far, with what is made of those that are left, is what is made of all
abbrev pub invariant-loop-point : goal.invariant-loop-point
invariant-loop-point l = (rest : List Span) → AreEach (IsSpanOf l.system) (drop l.point-index l.points) rest → AreEach (IsSpanOf l.system) l.points (l.spans.items ++ rest)
