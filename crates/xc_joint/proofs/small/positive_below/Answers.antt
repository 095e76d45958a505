use Rattle.xc_joint.proofs.Rooms.{one_over}
use Rattle.xc_joint.proofs.small.positive_below.Goals as goal

pub returns-in-None-clause-room : goal.returns-in-None-clause-room
returns-in-None-clause-room c = λ w room positive none. one_over w positive c.one.result c.one.ensures
