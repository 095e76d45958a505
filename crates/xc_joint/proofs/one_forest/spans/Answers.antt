use Rattle.xc_joint.specs.Steps.OneForest.{IsSpanOf}
use Rattle.xc_joint.proofs.Each.{each_end}
use Rattle.xc_joint.proofs.one_forest.spans.Goals as goal

pub returns : goal.returns
returns c = each_end (IsSpanOf c.args.system.now) c.args.points.now c.loop-point.point-index c.loop-point.spans.items c.loop-point.invariant c.loop-point-test.false
