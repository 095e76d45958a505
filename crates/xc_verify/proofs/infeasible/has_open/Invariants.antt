use Rattle.std.proofs.Common.{◌≡◌, drop}
use Rattle.std.specs.List.{list_any}
use Rattle.xc_verify.specs.Steps.Running.{is_open_on}
use Rattle.xc_verify.proofs.infeasible.has_open.Given as goal

-- one of the lines that are left lists an open end exactly where one of all does
abbrev pub invariant-loop-fact : goal.invariant-loop-fact
invariant-loop-fact l = list_any (λ m. is_open_on l.side l.system m.0) (drop l.fact-index l.lines) ≡ list_any (λ m. is_open_on l.side l.system m.0) l.lines
