use Rattle.std.proofs.Common.{ℕ, ◌<◌, get_or}
use Rattle.xc_system.specs.Forests.{IsUnit}
use Rattle.xc_system.specs.declared.types.Entry.{Entry}
use Rattle.xc_system.proofs.forests.are_units.Given as goal

abbrev pub invariant-loop-entry : goal.invariant-loop-entry
invariant-loop-entry l = (k : ℕ) (d : Entry) → k < l.entry-index → IsUnit (get_or l.entries k d).weight
