use Rattle.std.proofs.Common.{rules}
use Rattle.xc_interval.proofs.Emptiness.{meet_numbers}
use Rattle.xc_interval.proofs.interval.Interval.meet.Goals as goal

pub returns-clause-numbers : goal.returns-clause-numbers
returns-clause-numbers g c real =
    meet_numbers g.E.Exact.parts real c.args.self.now c.args.other.now (record { low = c.higher.result; high = c.lower.result }) (search rules)
