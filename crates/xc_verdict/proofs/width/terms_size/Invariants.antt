use Rattle.std.proofs.Common.{◌≡◌, ◌≤◌, ◌^◌, ◌+◌, ◌-◌, drop}
use Rattle.xc_interval.specs.Scales.{saturated}
use Rattle.xc_verdict.specs.Widths.{terms_size}
use Rattle.xc_verdict.proofs.width.terms_size.Given as goal

abbrev pub invariant-loop-term : goal.invariant-loop-term
invariant-loop-term l = (saturated (l.sum + terms_size l.points l.places l.scale (drop l.term-index l.terms)) ≡ saturated (terms_size l.points l.places l.scale l.terms)) × (l.sum ≤ 2 ^ 128 - 1)
