use Rattle.std.proofs.Common.{arith}
use Rattle.xc_sample.proofs.Lists.{text_more}
use Rattle.xc_sample.specs.Samples.{locator_line}
use Rattle.xc_sample.proofs.linkbase.push_locators.Goals as goal

pub loop-node-preserved : goal.loop-node-preserved
loop-node-preserved c = text_more (locator_line) _ _ _ 0 c.loop-node.node c.loop-node.node (omega arith) c.loop-node.invariant c.in_ok-push_locator.ensures
