use Rattle.std.proofs.Common.{◌≡◌, ◌-◌, length, drop}
use Rattle.xc_elements.proofs.scope.Scope.leave.Given as goal

-- leaving from here leads to the same
abbrev pub invariant-loop-self : goal.invariant-loop-self
invariant-loop-self l = drop (length l.self - l.outside) l.self ≡ drop (length l.initial.self - l.outside) l.initial.self

abbrev pub decreases-loop-self : goal.decreases-loop-self
decreases-loop-self l = length l.self
