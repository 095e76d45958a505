use Rattle.std.proofs.Common.{◌≡◌, ◌++◌, drop, map}
use Rattle.xc_joint.specs.CornerCauses.{line_with_number}
use Rattle.xc_joint.proofs.contradicting.lines_with_numbers.Given as goal

abbrev pub invariant-loop-line : goal.invariant-loop-line
invariant-loop-line l = l.made.items ++ map (line_with_number l.numbers) (drop l.line-index l.lines) ≡ map (line_with_number l.numbers) l.lines
