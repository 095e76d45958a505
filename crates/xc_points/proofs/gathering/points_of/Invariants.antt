use Rattle.std.specs.Vec.Iter.{into_iter_items}
use Rattle.xc_points.proofs.PointGroups.{ArePointsSoFar}
use Rattle.xc_points.proofs.gathering.points_of.Given as goal

abbrev pub invariant-loop-members : goal.invariant-loop-members
invariant-loop-members l = record {
  can : (goal.iterator-loop-members).can_next l.members-iterator;
  ends : (goal.iterator-loop-members).is_finite l.members-iterator;
  so_far : ArePointsSoFar l.facts l.ends l.points.items (into_iter_items l.members-iterator);
}
