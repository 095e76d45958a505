use Rattle.std.proofs.Common.{◌≡◌}
use Rattle.std.specs.List.{list_all}
use Rattle.serde_json.specs.View.{members_view}
use Rattle.xc_report.specs.Json.{member_list}
use Rattle.xc_report.specs.Json.{is_text}
use Rattle.xc_report.proofs.parts.each_is_text.Given as goal

-- the members so far are texts
abbrev pub invariant-loop-value : goal.invariant-loop-value
invariant-loop-value l = record {
  can : (goal.iterator-loop-value).can_next l.value-iterator;
  ends : (goal.iterator-loop-value).is_finite l.value-iterator;
  texts : list_all is_text (member_list (members_view l.members.entries)) ≡ list_all is_text (member_list (members_view l.value-iterator));
}
