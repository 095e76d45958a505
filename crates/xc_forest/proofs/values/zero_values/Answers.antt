use Rattle.std.proofs.Common.{arith}
use Rattle.std.proofs.lemmas.List.{length_push}
use Rattle.xc_forest.specs.Forests.{ranges_of}
use Rattle.xc_forest.proofs.Narrowings.{zero_over}
use Rattle.xc_forest.proofs.Undoings.{values_push}
use Rattle.xc_forest.proofs.values.zero_values.Goals as goal

pub loop-vertex-preserved : goal.loop-vertex-preserved
loop-vertex-preserved g c =
    let o = zero_over (ranges_of g.E.Exact.parts c.args.forest.now.ranges) (g.E.Exact.parts c.zero.result) c.zero.ensures in
    rw c.in_ok-push.ensures.items (record {
      each = omega (arith, length_push c.loop-vertex.values.items c.zero.result, c.loop-vertex.invariant.each);
      hold = values_push g.E.Exact.parts _ c.loop-vertex.values.items c.zero.result _ c.loop-vertex.invariant.hold o;
    })
