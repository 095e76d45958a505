use Rattle.std.proofs.Common.{rules}
use Rattle.xc_interval.proofs.Emptiness.{contains_number}
use Rattle.xc_interval.proofs.interval.Interval.contains.Goals as goal

pub returns-then-is_past-clause-numbers : goal.returns-then-is_past-clause-numbers
returns-then-is_past-clause-numbers g c real = contains_number g.E.Exact.parts real c.args.self.now c.args.value c.is_before.result (search rules)
