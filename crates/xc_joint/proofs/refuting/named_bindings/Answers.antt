use Rattle.std.proofs.Common.{pos, sym, ap, ◌∙◌, ◌∷◌, [], ◌++◌, get_or}
use Rattle.xc_joint.specs.Steps.Multiplied.{is_minus, is_nonzero}
use Rattle.xc_joint.proofs.Picking.{taken, left_out}
use Rattle.xc_joint.proofs.refuting.named_bindings.Goals as goal
use Rattle.xc_joint.proofs.refuting.named_bindings.Goals.{then-counts+in_ok-push, else-counts}

pub loop-number-preserved : goal.loop-number-preserved
loop-number-preserved c = elim c.if-counts.branch [
  | then-counts+in_ok-push w ↦ taken is_nonzero (λ i e. (i, is_minus e)) c.args.equations.now c.args.by.now c.loop-number.number 0 (pos 0) c.loop-number.bindings.items c.if-counts.bindings.items c.loop-number-test.true c.requires (sym c.counts.ensures ∙ w.if-counts.true) c.loop-number.invariant (ap (λ v. v.items) w.bindings-is ∙ w.in_ok-push.ensures.items ∙ ap (λ b. c.loop-number.bindings.items ++ (get_or c.args.equations.now c.loop-number.number 0, b) ∷ []) w.is_high.ensures)
  | else-counts w ↦ left_out is_nonzero (λ i e. (i, is_minus e)) c.args.equations.now c.args.by.now c.loop-number.number 0 (pos 0) c.loop-number.bindings.items c.if-counts.bindings.items c.loop-number-test.true c.requires (sym c.counts.ensures ∙ w.if-counts.false) c.loop-number.invariant (ap (λ v. v.items) w.bindings-is)
]
