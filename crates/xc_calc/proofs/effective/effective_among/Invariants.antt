use Rattle.std.proofs.Common.{◌≡◌, map, filter_map}
use Rattle.xc_calc.specs.Effective.{effective_at}
use Rattle.xc_lists.specs.Places.{before}
use Rattle.xc_calc.proofs.effective.effective_among.Given as goal

-- the effective ones of the arcs so far
abbrev pub invariant-loop-at : goal.invariant-loop-at
invariant-loop-at l = map (λ a. a.now) l.effective.items ≡ filter_map (effective_at l.arcs) (before l.at)
