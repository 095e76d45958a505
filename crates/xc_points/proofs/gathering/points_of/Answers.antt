use Rattle.std.proofs.Common.{rules, ◌≡◌, ◌∷◌, [], sym, subst}
use Rattle.std.specs.Vec.Iter.{into_iter_items}
use Rattle.xc_points.proofs.PointGroups.{ArePointsSoFar, HasItsRange, next_numbers, one_more_point}
use Rattle.std.proofs.lemmas.List.Elements.{All-nil}
use Rattle.xc_points.proofs.MembersAre.{groups_are, members_are_numbers}
use Rattle.xc_points.specs.Steps.Members.{members_by, firsts_of}
use Rattle.xc_points.proofs.gathering.points_of.Goals as goal

pub loop-members-init : goal.loop-members-init
loop-members-init c =
    let facts = c.args.facts.now in
    let ends = c.args.ends.now in
    let left : into_iter_items c.into_iter-members-iterator.result ≡ members_by (firsts_of facts) = search rules in
    let start : ArePointsSoFar facts ends [] (members_by (firsts_of facts)) = record { are = groups_are facts; ranges = All-nil (HasItsRange ends); numbers = members_are_numbers facts } in
    record {
      can = tt;
      ends = tt;
      so_far = subst (λ ps. ArePointsSoFar facts ends ps (into_iter_items c.into_iter-members-iterator.result)) (sym c.new-points.ensures.items) (subst (λ l. ArePointsSoFar facts ends [] l) (sym left) start);
    }

pub point_of-requires-clause-members : goal.point_of-requires-clause-members
point_of-requires-clause-members c =
    let split : into_iter_items c.loop-members.members-iterator ≡ c.in-Some.members ∷ into_iter_items c.next.new.self = search rules in
    next_numbers c.args.facts.now c.args.ends.now c.loop-members.points.items c.in-Some.members (into_iter_items c.next.new.self) (into_iter_items c.loop-members.members-iterator) split c.loop-members.invariant.so_far

pub loop-members-preserved : goal.loop-members-preserved
loop-members-preserved c =
    let split : into_iter_items c.loop-members.members-iterator ≡ c.in-Some.members ∷ into_iter_items c.next.new.self = search rules in
    record {
      can = tt;
      ends = tt;
      so_far = subst (λ ps. ArePointsSoFar c.args.facts.now c.args.ends.now ps (into_iter_items c.next.new.self)) (sym c.in_ok-keep.ensures)
          (one_more_point c.args.facts.now c.args.ends.now c.loop-members.points.items c.in-Some.members (into_iter_items c.next.new.self) (into_iter_items c.loop-members.members-iterator) c.point_of.result split
          c.point_of.ensures.group c.point_of.ensures.range c.loop-members.invariant.so_far);
    }
