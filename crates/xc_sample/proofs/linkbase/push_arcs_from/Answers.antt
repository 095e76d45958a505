use Rattle.xc_sample.proofs.Lists.{two_arcs, one_arc, no_arc}
use Rattle.xc_sample.proofs.linkbase.push_arcs_from.Goals as goal

pub returns-then-second-count : goal.returns-then-second-count
returns-then-second-count c = two_arcs c.args.count c.args.node _ _ _ c.if-second-count.true c.in_ok-push_arc.ensures c.in_ok-push_arc-2.ensures

pub returns-then-first-count : goal.returns-then-first-count
returns-then-first-count c = one_arc c.args.count c.args.node _ _ c.if-first-count.true c.if-second-count.false c.in_ok-push_arc-3.ensures

pub returns : goal.returns
returns c = no_arc c.args.count c.args.node _ c.if-first-count.false
