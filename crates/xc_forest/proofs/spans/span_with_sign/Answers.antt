use Rattle.xc_forest.proofs.spans.span_with_sign.Goals as goal

pub returns-then-minus : goal.returns-then-minus
returns-then-minus g c x d h = rw c.if-minus.true (record { low = c.neg.ensures.over x.high d h.high; high = c.neg-then-minus.ensures.over x.low d h.low })
