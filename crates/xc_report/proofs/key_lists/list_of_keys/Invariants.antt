use Rattle.std.proofs.Common.{◌≡◌, ◌++◌, ◌+◌, ◌≤◌, length, vec_capacity}
use Rattle.xc_report.proofs.key_lists.list_of_keys.Given as goal

abbrev pub invariant-loop-key : goal.invariant-loop-key
invariant-loop-key l = record {
  can : (goal.iterator-loop-key).can_next l.key-iterator;
  ends : (goal.iterator-loop-key).is_finite l.key-iterator;
  moved : l.list.items ++ l.key-iterator ≡ l.fn.keys.keys;
  room : length l.list.items + length l.key-iterator ≤ vec_capacity l.list;
}
