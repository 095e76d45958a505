use Rattle.std.proofs.Common.{◌+◌, ◌++◌, ◌∷◌, List, arith, refl, ap, ◌∙◌, subst, drop}
use Rattle.std.specs.Prelude.{length}
use Rattle.std.proofs.lemmas.List.{length-set}
use Rattle.xc_forest.specs.Steps.Edges.{Edge, AreTalliesWith, edges_from, edges_of_row}
use Rattle.xc_forest.proofs.EdgeCounts.{are_few}
use Rattle.xc_forest.proofs.TallySteps.{with_edge, room_at_point, room_at_row, point_below, next_edge, apart, edge_at}
use Rattle.xc_forest.proofs.tallies.tally_row.Goals as goal

pub tally_end-requires-clause-there : goal.tally_end-requires-clause-there
tally_end-requires-clause-there c = omega (arith, c.requires.each, c.loop-point.invariant.each, point_below c.args.points c.args.rows.now c.requires.rows c.args.i c.requires.there c.as_slice-point-items.result.now c.index-rows-i.result c.as_slice-point-items.ensures c.index-rows-i.is c.loop-point.point-index c.loop-point-test.true)

pub tally_end-requires-clause-room : goal.tally_end-requires-clause-room
tally_end-requires-clause-room c =
    let es = edges_from c.args.points c.args.rows.now in
    let rest = edges_from (c.args.points + (c.args.i + 1)) (drop (c.args.i + 1) c.args.rows.now) in
    let row = c.as_slice-point-items.result.now in
    let e = edge_at (c.args.points + c.args.i) row c.loop-point.point-index in
    let next = next_edge c.args.points c.args.rows.now c.requires.rows c.args.i c.requires.there row c.index-rows-i.result c.as_slice-point-items.ensures c.index-rows-i.is c.loop-point.point-index c.loop-point-test.true rest in
    let with : AreTalliesWith es (e ∷ (edges_of_row (c.args.points + c.args.i) (drop (c.loop-point.point-index + 1) row) ++ rest)) c.loop-point.tallies = subst (λ (left : List Edge). AreTalliesWith es left c.loop-point.tallies) next c.loop-point.invariant.tallies in
    let below = point_below c.args.points c.args.rows.now c.requires.rows c.args.i c.requires.there row c.index-rows-i.result c.as_slice-point-items.ensures c.index-rows-i.is c.loop-point.point-index c.loop-point-test.true in
    let far = apart c.args.points c.args.rows.now c.requires.rows c.args.i c.requires.there row c.index-rows-i.result c.as_slice-point-items.ensures c.index-rows-i.is c.loop-point.point-index c.loop-point-test.true in
    room_at_point es _ c.loop-point.tallies e (are_few c.args.points c.args.rows.now c.requires.points c.requires.few c.requires.rows) with far (omega (arith, c.requires.each, c.loop-point.invariant.each, below))

pub tally_end-requires-in-loop-point-clause-room : goal.tally_end-requires-in-loop-point-clause-room
tally_end-requires-in-loop-point-clause-room c =
    let es = edges_from c.args.points c.args.rows.now in
    let rest = edges_from (c.args.points + (c.args.i + 1)) (drop (c.args.i + 1) c.args.rows.now) in
    let row = c.as_slice-point-items.result.now in
    let e = edge_at (c.args.points + c.args.i) row c.loop-point.point-index in
    let next = next_edge c.args.points c.args.rows.now c.requires.rows c.args.i c.requires.there row c.index-rows-i.result c.as_slice-point-items.ensures c.index-rows-i.is c.loop-point.point-index c.loop-point-test.true rest in
    let with : AreTalliesWith es (e ∷ (edges_of_row (c.args.points + c.args.i) (drop (c.loop-point.point-index + 1) row) ++ rest)) c.loop-point.tallies = subst (λ (left : List Edge). AreTalliesWith es left c.loop-point.tallies) next c.loop-point.invariant.tallies in
    let far = apart c.args.points c.args.rows.now c.requires.rows c.args.i c.requires.there row c.index-rows-i.result c.as_slice-point-items.ensures c.index-rows-i.is c.loop-point.point-index c.loop-point-test.true in
    rw c.tally_end.ensures (room_at_row es _ c.loop-point.tallies e _ (are_few c.args.points c.args.rows.now c.requires.points c.requires.few c.requires.rows) with far (omega (arith, c.requires.each, c.loop-point.invariant.each, c.requires.there)))

pub loop-point-preserved : goal.loop-point-preserved
loop-point-preserved c =
    let es = edges_from c.args.points c.args.rows.now in
    let rest = edges_from (c.args.points + (c.args.i + 1)) (drop (c.args.i + 1) c.args.rows.now) in
    let row = c.as_slice-point-items.result.now in
    let e = edge_at (c.args.points + c.args.i) row c.loop-point.point-index in
    let next = next_edge c.args.points c.args.rows.now c.requires.rows c.args.i c.requires.there row c.index-rows-i.result c.as_slice-point-items.ensures c.index-rows-i.is c.loop-point.point-index c.loop-point-test.true rest in
    let with : AreTalliesWith es (e ∷ (edges_of_row (c.args.points + c.args.i) (drop (c.loop-point.point-index + 1) row) ++ rest)) c.loop-point.tallies = subst (λ (left : List Edge). AreTalliesWith es left c.loop-point.tallies) next c.loop-point.invariant.tallies in
    let below = point_below c.args.points c.args.rows.now c.requires.rows c.args.i c.requires.there row c.index-rows-i.result c.as_slice-point-items.ensures c.index-rows-i.is c.loop-point.point-index c.loop-point-test.true in
    let far = apart c.args.points c.args.rows.now c.requires.rows c.args.i c.requires.there row c.index-rows-i.result c.as_slice-point-items.ensures c.index-rows-i.is c.loop-point.point-index c.loop-point-test.true in
    record {
      each = ap length c.tally_end-in-loop-point.ensures ∙ length-set _ _ _ ∙ ap length c.tally_end.ensures ∙ length-set _ _ _ ∙ c.loop-point.invariant.each;
      tallies = rw (c.tally_end-in-loop-point.ensures, c.tally_end.ensures) (with_edge es _ c.loop-point.tallies e _ _ with far (omega (arith, c.requires.each, c.loop-point.invariant.each, below)) (omega (arith, c.requires.each, c.loop-point.invariant.each, c.requires.there)) refl refl);
    }
