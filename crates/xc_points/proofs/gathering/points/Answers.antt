use Rattle.std.proofs.Common.{rules, ◌≡◌, length, map, ap, subst, ◌∙◌}
use Rattle.std.specs.Prelude.{All}
use Rattle.xc_points.proofs.PointGroups.{HasItsRange}
use Rattle.xc_points.proofs.PointsKept.{length_ends, points_kept, are_points, few_points}
use Rattle.xc_points.specs.Gathered.{ArePoints, AreEnds, group_of, groups}
use Rattle.xc_points.proofs.gathering.points.Goals as goal

pub points_of-requires-clause-ends : goal.points_of-requires-clause-ends
points_of-requires-clause-ends c =
    let facts = c.as_slice-facts.result.now in
    let ends = c.in_ok-ends.ends.items in
    let are : AreEnds c.args.mode facts ends = c.in_ok-ends.ensures in
    let value : c.as_slice.result.now ≡ ends = search rules in
    ap (λ l. length l) value ∙ length_ends c.args.mode facts ends are

pub of-requires : goal.of-requires
of-requires c =
    let facts = c.as_slice-facts.result.now in
    let ends = c.in_ok-ends.ends.items in
    let points = c.in_ok-points.points.items in
    let are_ends : AreEnds c.args.mode facts ends = c.in_ok-ends.ensures in
    let value : c.as_slice.result.now ≡ ends = search rules in
    let groups_are : map group_of points ≡ groups facts = c.in_ok-points.ensures.groups in
    let ranges : All (HasItsRange ends) points = subst (λ es. All (HasItsRange es) points) value c.in_ok-points.ensures.ranges in
    points_kept facts points ends groups_are (length_ends c.args.mode facts ends are_ends) ranges

found : (c : goal.After-of) → ArePoints c.args.mode c.args.report.now.facts c.of.result
found c =
    let facts = c.as_slice-facts.result.now in
    let ends = c.in_ok-ends.ends.items in
    let points = c.in_ok-points.points.items in
    let are_ends : AreEnds c.args.mode facts ends = c.in_ok-ends.ensures in
    let value : c.as_slice.result.now ≡ ends = search rules in
    let groups_are : map group_of points ≡ groups facts = c.in_ok-points.ensures.groups in
    let ranges : All (HasItsRange ends) points = subst (λ es. All (HasItsRange es) points) value c.in_ok-points.ensures.ranges in
    let all : ArePoints c.args.mode facts c.of.result = are_points c.args.mode facts points ends c.of.result c.of.ensures.points c.of.ensures.ends groups_are are_ends ranges in
    subst (λ fs. ArePoints c.args.mode fs c.of.result) c.as_slice-facts.ensures all

pub returns-clause-points : goal.returns-clause-points
returns-clause-points c = found c

pub returns-clause-few : goal.returns-clause-few
returns-clause-few c = few_points c.args.mode c.args.report.now.facts c.of.result (found c)
