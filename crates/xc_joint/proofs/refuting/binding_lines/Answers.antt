use Rattle.std.proofs.Common.{refl}
use Rattle.xc_joint.specs.Steps.Multiplied.{IsSigned}
use Rattle.xc_joint.proofs.Each.{each_end, each_next_at}
use Rattle.xc_joint.proofs.refuting.binding_lines.Goals as goal

pub loop-binding-preserved : goal.loop-binding-preserved
loop-binding-preserved c = each_next_at IsSigned c.args.bindings.now c.loop-binding.binding-index _ c.loop-binding.listed.items _ c.push.new.self.items c.loop-binding.invariant c.loop-binding-test.true c.in_ok-push.ensures.items (refl, c.unit.ensures)

pub returns : goal.returns
returns c = each_end IsSigned c.args.bindings.now c.loop-binding.binding-index c.loop-binding.listed.items c.loop-binding.invariant c.loop-binding-test.false
