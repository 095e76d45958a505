use Rattle.std.proofs.Common.{◌≡◌, length}
use Rattle.xc_report.specs.Stated.{has_twice}
use Rattle.xc_report.proofs.doubles.has_twice_of_few.Given as goal

-- none of those so far stands twice
abbrev pub invariant-loop-left : goal.invariant-loop-left
invariant-loop-left l = has_twice l.parts ≡ has_twice l.left

abbrev pub decreases-loop-left : goal.decreases-loop-left
decreases-loop-left l = length l.left
