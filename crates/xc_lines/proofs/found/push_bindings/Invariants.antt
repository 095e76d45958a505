use Rattle.std.proofs.Common.{◌≡◌, ◌++◌, drop, string_bytes}
use Rattle.std.specs.List.{zip, enumerate_from}
use Rattle.xc_lines.specs.Findings.{binding_lines}
use Rattle.xc_lines.proofs.found.push_bindings.Given as goal

-- the lines so far, and then those of the bindings that are left
abbrev pub invariant-loop-number : goal.invariant-loop-number
invariant-loop-number l =
    string_bytes l.out ++ binding_lines l.mode l.facts l.networks l.points (enumerate_from l.number (zip (drop l.number l.bindings) (drop l.number l.verdicts)))
    ≡ string_bytes l.initial.out ++ binding_lines l.mode l.facts l.networks l.points (enumerate_from 0 (zip l.bindings l.verdicts))
