use Rattle.std.proofs.Common.{◌≡◌, ◌++◌, drop}
use Rattle.std.specs.List.{enumerate_from}
use Rattle.xc_lines.specs.Joints.{part_lines}
use Rattle.xc_lines.proofs.joints.push_parts.Given as goal

-- the lines so far, and then those of the parts that are left
abbrev pub invariant-loop-number : goal.invariant-loop-number
invariant-loop-number l = l.out.items ++ part_lines l.facts (enumerate_from l.number (drop l.number l.parts)) ≡ l.initial.out.items ++ part_lines l.facts (enumerate_from 0 l.parts)
