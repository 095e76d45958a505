use Rattle.std.proofs.Common.{◌≡◌, drop}
use Rattle.std.specs.Prelude.{find}
use Rattle.xc_system.specs.Spots.{is_wide_fact}
use Rattle.xc_system.proofs.spots.first_wide.Given as goal

-- what is left has the same first
abbrev pub invariant-loop-fact : goal.invariant-loop-fact
invariant-loop-fact l = find (is_wide_fact l.bounds) (drop l.fact-index l.others) ≡ find (is_wide_fact l.bounds) l.others
