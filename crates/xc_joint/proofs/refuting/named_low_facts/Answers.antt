use Rattle.std.proofs.Common.{pos, sym, ap, ◌∙◌}
use Rattle.xc_joint.specs.Steps.Multiplied.{is_plus}
use Rattle.xc_joint.proofs.Picking.{taken, left_out}
use Rattle.xc_joint.proofs.refuting.named_low_facts.Goals as goal
use Rattle.xc_joint.proofs.refuting.named_low_facts.Goals.{then-is_low+in_ok-push, else-is_low}

pub loop-number-preserved : goal.loop-number-preserved
loop-number-preserved c = elim c.if-is_low.branch [
  | then-is_low+in_ok-push w ↦ taken is_plus (λ x e. x.low) c.args.spans.now c.args.ends.now c.loop-number.number (record { low = 0; high = 0 }) (pos 0) c.loop-number.facts.items c.if-is_low.facts.items c.loop-number-test.true c.requires (sym c.is_low.ensures ∙ w.if-is_low.true) c.loop-number.invariant (ap (λ v. v.items) w.facts-is ∙ w.in_ok-push.ensures.items)
  | else-is_low w ↦ left_out is_plus (λ x e. x.low) c.args.spans.now c.args.ends.now c.loop-number.number (record { low = 0; high = 0 }) (pos 0) c.loop-number.facts.items c.if-is_low.facts.items c.loop-number-test.true c.requires (sym c.is_low.ensures ∙ w.if-is_low.false) c.loop-number.invariant (ap (λ v. v.items) w.facts-is)
]
