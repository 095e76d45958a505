use Rattle.xc_sample.proofs.NodeValues.{lifted, not_lifted}
use Rattle.xc_sample.proofs.values.lift.Goals as goal

pub returns-then-node-count-clause-is : goal.returns-then-node-count-clause-is
returns-then-node-count-clause-is c = not_lifted c.args.count c.args.node c.if-node-count.true

pub returns-else-node-count-clause-is : goal.returns-else-node-count-clause-is
returns-else-node-count-clause-is c = lifted c.args.count c.args.node c.if-node-count.false
