use Rattle.xc_joint.specs.Steps.Wides.{IsLeastIn, IsWideBefore}
use Rattle.xc_joint.proofs.wides.least_wide.Given as goal

-- the least of the points so far
abbrev pub invariant-loop-point : goal.invariant-loop-point
invariant-loop-point l = IsLeastIn (IsWideBefore l.system l.component l.point-index) l.least
