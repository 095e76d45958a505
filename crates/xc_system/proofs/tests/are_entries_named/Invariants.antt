use Rattle.std.proofs.Common.{ℕ, ◌<◌, get_or}
use Rattle.xc_system.specs.declared.types.Entry.{Entry}
use Rattle.xc_system.proofs.tests.are_entries_named.Given as goal

abbrev pub invariant-loop-entry : goal.invariant-loop-entry
invariant-loop-entry l = (k : ℕ) (d : Entry) → k < l.entry-index → (get_or l.entries k d).point < l.points
