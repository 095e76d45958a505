use Rattle.xc_interval.proofs.Emptiness.{negated_numbers, negated_some}
use Rattle.xc_interval.proofs.Multiples.{pair_negatives}
use Rattle.xc_interval.specs.Intervals.{pairs_of}
use Rattle.xc_interval.proofs.interval.Interval.negated.Goals as goal

pub returns-clause-pairs : goal.returns-clause-pairs
returns-clause-pairs g c =
    pair_negatives (pairs_of g.E.Exact.parts c.args.self.now) (pairs_of g.E.Exact.parts (record { low = c.turned.result; high = c.turned-2.result })) (record { low = c.turned.ensures; high = c.turned-2.ensures })

pub returns-clause-numbers : goal.returns-clause-numbers
returns-clause-numbers g c real =
    negated_numbers g.E.Exact.parts real c.args.self.now (record { low = c.turned.result; high = c.turned-2.result }) (record { low = c.turned.ensures; high = c.turned-2.ensures })

pub returns-clause-some : goal.returns-clause-some
returns-clause-some g c =
    negated_some g.E.Exact.parts c.args.self.now (record { low = c.turned.result; high = c.turned-2.result }) (record { low = c.turned.ensures; high = c.turned-2.ensures })
