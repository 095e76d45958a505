use Rattle.std.proofs.Common.{◌≡◌, ◌++◌, drop, string_bytes}
use Rattle.std.specs.List.{enumerate_from}
use Rattle.xc_lines.specs.Settled.{because_lines}
use Rattle.xc_lines.specs.Steps.Named.{IsLeft}
use Rattle.xc_lines.proofs.settled.push_because.Given as goal

-- the lines so far, and then those of the facts that are left; and what is left of both lists for these
abbrev pub invariant-loop-number : goal.invariant-loop-number
invariant-loop-number l = record {
  text : string_bytes l.out ++ because_lines l.refutation (enumerate_from l.number (drop l.number l.facts)) ≡ string_bytes l.initial.out ++ because_lines l.refutation (enumerate_from 0 l.facts);
  lows : IsLeft l.refutation.lows l.lows l.number;
  highs : IsLeft l.refutation.highs l.highs l.number;
}
