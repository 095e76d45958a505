use Rattle.std.proofs.Common.{◌≡◌, ◌++◌, drop, string_bytes}
use Rattle.std.specs.List.{enumerate_from}
use Rattle.xc_lines.specs.Findings.{empty_point_lines}
use Rattle.xc_lines.proofs.found.push_empty_points.Given as goal

-- the lines so far, and then those of the points that are left
abbrev pub invariant-loop-number : goal.invariant-loop-number
invariant-loop-number l = string_bytes l.out ++ empty_point_lines l.facts (enumerate_from l.number (drop l.number l.points)) ≡ string_bytes l.initial.out ++ empty_point_lines l.facts (enumerate_from 0 l.points)
