use Rattle.std.proofs.Common.{pos, sym, ap, ◌∙◌}
use Rattle.xc_joint.specs.Steps.Multiplied.{is_minus}
use Rattle.xc_joint.proofs.Picking.{taken, left_out}
use Rattle.xc_joint.proofs.refuting.named_high_facts.Goals as goal
use Rattle.xc_joint.proofs.refuting.named_high_facts.Goals.{then-is_high+in_ok-push, else-is_high}

pub loop-number-preserved : goal.loop-number-preserved
loop-number-preserved c = elim c.if-is_high.branch [
  | then-is_high+in_ok-push w ↦ taken is_minus (λ x e. x.high) c.args.spans.now c.args.ends.now c.loop-number.number (record { low = 0; high = 0 }) (pos 0) c.loop-number.facts.items c.if-is_high.facts.items c.loop-number-test.true c.requires (sym c.is_high.ensures ∙ w.if-is_high.true) c.loop-number.invariant (ap (λ v. v.items) w.facts-is ∙ w.in_ok-push.ensures.items)
  | else-is_high w ↦ left_out is_minus (λ x e. x.high) c.args.spans.now c.args.ends.now c.loop-number.number (record { low = 0; high = 0 }) (pos 0) c.loop-number.facts.items c.if-is_high.facts.items c.loop-number-test.true c.requires (sym c.is_high.ensures ∙ w.if-is_high.false) c.loop-number.invariant (ap (λ v. v.items) w.facts-is)
]
