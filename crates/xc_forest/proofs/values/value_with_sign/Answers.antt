use Rattle.xc_forest.proofs.values.value_with_sign.Goals as goal

pub returns-then-minus : goal.returns-then-minus
returns-then-minus g c a d h = rw c.if-minus.true (c.neg.ensures.over a d h)
