use Rattle.std.proofs.Common.{◌≡◌}
use Rattle.serde_json.specs.View.{members_view}
use Rattle.xc_report.specs.Steps.{known_view}
use Rattle.xc_report.specs.Steps.Gained.{MayGain, all_names}
use Rattle.xc_report.specs.StatedFacts.{first, faults_of}
use Rattle.xc_report.proofs.Gathered.{AreRead}
use Rattle.xc_report.proofs.numbered.numbered_report.Given as goal

-- what was read, with what the members that are left give, is what all give; none so far has a fault
abbrev pub invariant-loop-id : goal.invariant-loop-id
invariant-loop-id l = record {
  can : (goal.iterator-loop-id).can_next l.id-iterator;
  ends : (goal.iterator-loop-id).is_finite l.id-iterator;
  names : MayGain l.fn.names l.names;
  facts : AreRead (known_view l.known) (members_view l.fn.members.entries) (members_view l.id-iterator) (all_names l.names) l.facts.items l.keys;
  fault : first (faults_of (known_view l.known) (members_view l.fn.members.entries)) ≡ first (faults_of (known_view l.known) (members_view l.id-iterator));
}
