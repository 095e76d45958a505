use Rattle.std.proofs.Common.{ℕ, Bool, List, ◌++◌, drop}
use Rattle.xc_joint.specs.Lists.{AreEach}
use Rattle.xc_joint.specs.Steps.OneForest.{IsRowOf}
use Rattle.xc_joint.proofs.one_forest.rows.Given as goal

-- what is made so far, with what is made of those that are left, is what is made of all
abbrev pub invariant-loop-number : goal.invariant-loop-number
invariant-loop-number l = (rest : List (List (ℕ × Bool))) → AreEach (IsRowOf l.system l.component.points) (drop l.number-index l.component.equations) rest → AreEach (IsRowOf l.system l.component.points) l.component.equations (l.rows.items ++ rest)
