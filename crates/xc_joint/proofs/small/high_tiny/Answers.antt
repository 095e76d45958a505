use Rattle.std.proofs.Common.{arith}
use Rattle.xc_interval.specs.Ends.{is_open}
use Rattle.xc_joint.proofs.Rooms.{is_within}
use Rattle.xc_joint.proofs.Bounded.{minus_one, open_tiny}
use Rattle.std.specs.Prelude.{pos, negsuc}
use Rattle.xc_model.specs.Fraction.{whole}
use Rattle.xc_model.specs.Ratio.{fraction_of}
use Rattle.xc_joint.proofs.small.high_tiny.Goals as goal

pub returns-then-is_open-clause-same : goal.returns-then-is_open-clause-same
returns-then-is_open-clause-same c = open_tiny (is_open c.args.end) (fraction_of c.neg.result) (whole (negsuc 0)) (whole (pos 0)) c.if-is_open.ensures (minus_one c.one.result c.neg.result c.one.ensures c.neg.ensures.exact)

pub returns-then-is_open-clause-tiny : goal.returns-then-is_open-clause-tiny
returns-then-is_open-clause-tiny c = is_within c.neg.result (negsuc 0) (minus_one c.one.result c.neg.result c.one.ensures c.neg.ensures.exact) (omega arith)
