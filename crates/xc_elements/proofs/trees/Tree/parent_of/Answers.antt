use Rattle.std.proofs.Common.{◌<◌, ap, length, option_and_then, subst, sym}
use Rattle.std.proofs.lemmas.Option.{slice_get-get_or}
use Rattle.xc_elements.proofs.TreeLaws.{parents_before}
use Rattle.xc_elements.proofs.trees.Tree.parent_of.Goals as goal

pub returns-clause-earlier : goal.returns-clause-earlier
returns-clause-earlier c =
    let nodes = c.nodes.result.now in
    let within : c.args.node < length nodes = subst (λ ns. c.args.node < length ns) (sym c.nodes.ensures.nodes) c.requires in
    parents_before nodes c.nodes.ensures.tree c.args.node within _ (ap (option_and_then (λ n. n.parent)) (slice_get-get_or nodes c.args.node c.index-nodes-node.result within))
