use Rattle.xc_interval.proofs.Emptiness.{plus_pairs, plus_numbers, plus_some}
use Rattle.xc_interval.proofs.interval.Interval.plus.Goals as goal

pub returns-clause-pairs : goal.returns-clause-pairs
returns-clause-pairs g c =
    plus_pairs g.E.Exact.parts c.args.self.now c.args.other.now (record { low = c.in_ok-low.low; high = c.in_ok-high.high })
    c.requires.own c.requires.others (record { low = c.in_ok-low.ensures.exact; high = c.in_ok-high.ensures.exact })

pub returns-clause-numbers : goal.returns-clause-numbers
returns-clause-numbers g c real =
    plus_numbers g.E.Exact.parts real c.args.self.now c.args.other.now (record { low = c.in_ok-low.low; high = c.in_ok-high.high })
    c.requires.own c.requires.others (record { low = c.in_ok-low.ensures.exact; high = c.in_ok-high.ensures.exact })

pub returns-clause-some : goal.returns-clause-some
returns-clause-some g c =
    plus_some g.E.Exact.parts c.args.self.now c.args.other.now (record { low = c.in_ok-low.low; high = c.in_ok-high.high })
    c.requires.own c.requires.others (record { low = c.in_ok-low.ensures.exact; high = c.in_ok-high.ensures.exact })
