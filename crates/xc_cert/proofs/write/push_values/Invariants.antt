use Rattle.std.proofs.Common.{◌≡◌, ◌++◌, drop}
use Rattle.std.specs.Prelude.{codes}
use Rattle.std.specs.List.{enumerate_from}
use Rattle.xc_cert.specs.Certificates.{numbered_lines}
use Rattle.xc_lists.specs.TextLines.{text_of}
use Rattle.xc_cert.proofs.write.push_values.Given as goal

-- the lines so far, and then those of the values that are left
abbrev pub invariant-loop-number : goal.invariant-loop-number
invariant-loop-number l =
    l.out.items ++ text_of (numbered_lines (codes "value") (enumerate_from l.number (drop l.number l.values)))
    ≡ l.initial.out.items ++ text_of (numbered_lines (codes "value") (enumerate_from 0 l.values))
