use Rattle.std.proofs.Common.{◌≡◌, ◌≤◌, drop}
use Rattle.std.specs.Prelude.{max}
use Rattle.xc_bind.specs.Equation.{most_places}
use Rattle.xc_verdict.proofs.width.most_places.Given as goal

abbrev pub invariant-loop-term : goal.invariant-loop-term
invariant-loop-term l = (max l.most (most_places (drop l.term-index l.terms)) ≡ most_places l.terms) × (l.most ≤ 37)
