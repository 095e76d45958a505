use Rattle.std.proofs.Common.{arith}
use Rattle.xc_sample.proofs.Lists.{text_more}
use Rattle.xc_sample.specs.Samples.{element_line}
use Rattle.xc_sample.proofs.schema.push_elements.Goals as goal

pub loop-node-preserved : goal.loop-node-preserved
loop-node-preserved c = text_more (element_line) _ _ _ 0 c.loop-node.node c.loop-node.node (omega arith) c.loop-node.invariant c.in_ok-push_element.ensures
