use Rattle.xc_forest.proofs.Results.{narrowed_first}
use Rattle.xc_forest.proofs.propagation.settle_in_order.Goals as goal

pub take_vertices-requires-clause-narrowed : goal.take_vertices-requires-clause-narrowed
take_vertices-requires-clause-narrowed g c = narrowed_first g.E.Exact.parts c.args.forest.now c.args.links.now c.in_ok-spans.spans.items c.new-undos.result.items c.new-undos.ensures.items c.requires.ranges c.in_ok-spans.ensures.spans c.in_ok-spans.ensures.each
