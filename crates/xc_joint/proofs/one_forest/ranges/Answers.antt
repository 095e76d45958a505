use Rattle.xc_joint.specs.Steps.OneForest.{IsRangeOf}
use Rattle.std.proofs.Common.{refl}
use Rattle.xc_joint.proofs.Each.{each_end, each_next_at}
use Rattle.xc_joint.proofs.one_forest.ranges.Goals as goal

pub loop-span-preserved : goal.loop-span-preserved
loop-span-preserved c = each_next_at (IsRangeOf c.args.system.now) c.args.spans.now c.loop-span.span-index _ c.loop-span.ranges.items _ c.push.new.self.items c.loop-span.invariant c.loop-span-test.true c.in_ok-push.ensures.items (record { low = c.interval_of.result; high = c.interval_of-in-loop-span.result; low_known = c.interval_of.ensures; high_known = c.interval_of-in-loop-span.ensures; low_is = refl; high_is = refl })

pub returns : goal.returns
returns c = each_end (IsRangeOf c.args.system.now) c.args.spans.now c.loop-span.span-index c.loop-span.ranges.items c.loop-span.invariant c.loop-span-test.false
