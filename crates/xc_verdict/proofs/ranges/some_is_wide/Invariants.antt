use Rattle.std.proofs.Common.{◌↔◌, map, drop}
use Rattle.xc_verdict.specs.Ranges.{point_of}
use Rattle.xc_verdict.specs.Steps.Sums.{SomeIsWide}
use Rattle.xc_verdict.proofs.ranges.some_is_wide.Given as goal

abbrev pub invariant-loop-term : goal.invariant-loop-term
invariant-loop-term l = SomeIsWide l.points (map point_of (drop l.term-index l.terms)) ↔ SomeIsWide l.points (map point_of l.terms)
