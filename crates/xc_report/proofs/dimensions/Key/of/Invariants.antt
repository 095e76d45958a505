use Rattle.std.proofs.Common.{◌≡◌, ◌++◌}
use Rattle.xc_report.proofs.dimensions.Key.of.Given as goal

abbrev pub invariant-loop-part : goal.invariant-loop-part
invariant-loop-part l = record {
  can : (goal.iterator-loop-part).can_next l.part-iterator;
  ends : (goal.iterator-loop-part).is_finite l.part-iterator;
  moved : l.parts.items ++ l.part-iterator ≡ l.fn.map.entries;
}
