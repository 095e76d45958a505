use Rattle.std.proofs.Common.{◌≡◌, ◌++◌, map, drop, filter_map}
use Rattle.xc_lists.specs.Doubles.{lent_texts}
use Rattle.xc_report.specs.Doubles.{part_name}
use Rattle.xc_report.proofs.doubles.names_of.Given as goal

-- the names so far, and those that are left
abbrev pub invariant-loop-part : goal.invariant-loop-part
invariant-loop-part l = map lent_texts l.names.items ++ filter_map part_name (drop l.part-index l.parts) ≡ filter_map part_name l.parts
