use Rattle.std.proofs.Common.{◌≡◌, ◌++◌}
use Rattle.serde_json.specs.View.{members_view}
use Rattle.xc_report.specs.Steps.{known_view}
use Rattle.xc_report.specs.Stated.{are_parts, given_parts}
use Rattle.xc_report.proofs.stated_parts.given_parts.Given as goal

-- what was read, with what the members that are left give, is what all give
abbrev pub invariant-loop-name : goal.invariant-loop-name
invariant-loop-name l = record {
  can : (goal.iterator-loop-name).can_next l.name-iterator;
  ends : (goal.iterator-loop-name).is_finite l.name-iterator;
  given : l.parts.items ++ given_parts (known_view l.known) (members_view l.name-iterator) ≡ given_parts (known_view l.known) (members_view l.members.entries);
  parts : are_parts (known_view l.known) (members_view l.members.entries) ≡ are_parts (known_view l.known) (members_view l.name-iterator);
}
