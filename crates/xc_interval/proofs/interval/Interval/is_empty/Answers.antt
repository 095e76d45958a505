use Rattle.xc_interval.proofs.Emptiness.{tells_pairs, tells_numbers}
use Rattle.xc_interval.proofs.interval.Interval.is_empty.Goals as goal

pub returns-clause-pairs : goal.returns-clause-pairs
returns-clause-pairs g c = tells_pairs g.E.Exact.parts c.args.self.now c.crosses.result c.crosses.ensures

pub returns-clause-numbers : goal.returns-clause-numbers
returns-clause-numbers g c real = tells_numbers g.E.Exact.parts real c.args.self.now c.crosses.result c.crosses.ensures
