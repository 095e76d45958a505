use Rattle.std.proofs.Common.{arith}
use Rattle.std.specs.Prelude.{pos}
use Rattle.xc_joint.proofs.Rooms.{is_within}
use Rattle.xc_joint.proofs.small.low_tiny.Goals as goal

pub returns-then-is_open-clause-tiny : goal.returns-then-is_open-clause-tiny
returns-then-is_open-clause-tiny c = is_within c.one.result (pos 1) c.one.ensures (omega arith)
