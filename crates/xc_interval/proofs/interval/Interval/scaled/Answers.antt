use Rattle.std.proofs.Common.{rules}
use Rattle.xc_interval.specs.Intervals.{reals_of}
use Rattle.xc_interval.proofs.Multiples.{multiples}
use Rattle.xc_interval.proofs.Emptiness.{scaled_some}
use Rattle.xc_interval.proofs.interval.Interval.scaled.Goals as goal

pub returns-then-is_negative-clause-numbers : goal.returns-then-is_negative-clause-numbers
returns-then-is_negative-clause-numbers g c =
    multiples (g.K.Exact.parts c.args.by).real (reals_of g.K.Exact.parts c.args.self.now) (reals_of g.K.Exact.parts (record { low = c.in_ok-high.high; high = c.in_ok-low.low })) c.requires (search rules)

pub returns-then-is_negative-clause-some : goal.returns-then-is_negative-clause-some
returns-then-is_negative-clause-some g c =
    scaled_some g.K.Exact.parts g.met.K.Scalar.no_tiny (g.K.Exact.parts c.args.by).real c.args.self.now (record { low = c.in_ok-high.high; high = c.in_ok-low.low }) (returns-then-is_negative-clause-numbers g c)

pub returns-else-is_negative-clause-numbers : goal.returns-else-is_negative-clause-numbers
returns-else-is_negative-clause-numbers g c =
    multiples (g.K.Exact.parts c.args.by).real (reals_of g.K.Exact.parts c.args.self.now) (reals_of g.K.Exact.parts (record { low = c.in_ok-low.low; high = c.in_ok-high.high })) c.requires (search rules)

pub returns-else-is_negative-clause-some : goal.returns-else-is_negative-clause-some
returns-else-is_negative-clause-some g c =
    scaled_some g.K.Exact.parts g.met.K.Scalar.no_tiny (g.K.Exact.parts c.args.by).real c.args.self.now (record { low = c.in_ok-low.low; high = c.in_ok-high.high }) (returns-else-is_negative-clause-numbers g c)
