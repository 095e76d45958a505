use Rattle.std.proofs.Common.{◌≡◌, ◌++◌, drop, filter_map}
use Rattle.xc_bind.specs.Bindings.{term_of, terms_of}
use Rattle.xc_bind.proofs.bound.terms_of.Given as goal

-- the terms so far, and then those of the arcs that are left
abbrev pub invariant-loop-arc : goal.invariant-loop-arc
invariant-loop-arc l = l.terms.items ++ filter_map (term_of l.points l.total.key) (drop l.arc-index l.arc-items) ≡ terms_of l.points l.arcs l.total
