use Rattle.std.proofs.Common.{arith, length, get_or, ◌<◌}
use Rattle.std.proofs.lemmas.Option.{slice_get-get_or}
use Rattle.xc_elements.proofs.TreeLaws.{length_by_end}
use Rattle.xc_elements.proofs.trees.Tree.count.Goals as goal

pub prove-unreachable-requires : goal.prove-unreachable-requires
prove-unreachable-requires c =
    let nodes = c.nodes-nodes.result.now in
    let root = get_or nodes 0 c.index-nodes-0.result in
    let some : 0 < length nodes = omega (arith, c.if-prove.true) in
    omega (arith, c.if-prove.true, c.max.ensures, length_by_end nodes c.nodes-nodes.ensures.tree root (slice_get-get_or nodes 0 c.index-nodes-0.result some))
