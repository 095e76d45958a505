use Rattle.std.proofs.Common.{refl}
use Rattle.xc_joint.specs.Steps.Multiplied.{IsListed}
use Rattle.xc_joint.proofs.Each.{each_end, each_next_at}
use Rattle.xc_joint.proofs.refuting.fact_lines.Goals as goal

pub loop-fact-preserved : goal.loop-fact-preserved
loop-fact-preserved c = each_next_at IsListed c.args.facts.now c.loop-fact.fact-index 0 c.loop-fact.listed.items _ c.push.new.self.items c.loop-fact.invariant c.loop-fact-test.true c.in_ok-push.ensures.items (refl, c.unit.ensures)

pub returns : goal.returns
returns c = each_end IsListed c.args.facts.now c.loop-fact.fact-index c.loop-fact.listed.items c.loop-fact.invariant c.loop-fact-test.false
