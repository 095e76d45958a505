use Rattle.std.proofs.Common.{ℕ, List, length, ap, sym, arith}
use Rattle.xc_joint.proofs.WideFacts.{first_wide, none_wide}
use Rattle.xc_joint.proofs.wides.wide_at.Goals as goal

pub returns-then-is_wide : goal.returns-then-is_wide
returns-then-is_wide c = first_wide c.args.system.now c.args.point c.facts_of-fact-items.result.now c.facts_of-fact-items.ensures.is c.loop-fact.fact-index c.loop-fact-test.true c.loop-fact.invariant (sym c.if-is_wide.ensures)

pub returns : goal.returns
returns c = none_wide c.args.system.now c.args.point (λ i h. c.loop-fact.invariant i (omega (arith, h, c.loop-fact-test.false, ap (λ (ks : List ℕ). length ks) c.facts_of-fact-items.ensures.is)))
