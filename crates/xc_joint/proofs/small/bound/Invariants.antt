use Rattle.std.proofs.Common.{drop}
use Rattle.xc_joint.specs.Steps.Gaps.{IsBoundSoFar, IsRoomSoFar}
use Rattle.xc_joint.proofs.small.bound.Given as goal

-- a bound by the values so far
abbrev pub invariant-loop-number : goal.invariant-loop-number
invariant-loop-number l = record {
  bounds : IsBoundSoFar l.bound l.ranges l.values (drop l.number l.ranges) (drop l.number l.values);
  room : IsRoomSoFar l.bound l.ranges l.values (drop l.number l.ranges) (drop l.number l.values);
}
