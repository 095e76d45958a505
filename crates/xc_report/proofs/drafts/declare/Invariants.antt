use Rattle.std.proofs.Common.{◌≡◌}
use Rattle.serde_json.specs.View.{members_view}
use Rattle.xc_report.specs.Opened.{declared_after}
use Rattle.xc_report.proofs.drafts.declare.Given as goal

-- what prefixes stand for, with what the members that are left declare, is what all declare
abbrev pub invariant-loop-prefix : goal.invariant-loop-prefix
invariant-loop-prefix l = record {
  can : (goal.iterator-loop-prefix).can_next l.prefix-iterator;
  ends : (goal.iterator-loop-prefix).is_finite l.prefix-iterator;
  declared : declared_after l.prefixes (members_view l.prefix-iterator) ≡ declared_after l.fn.prefixes (members_view l.members.entries);
}
