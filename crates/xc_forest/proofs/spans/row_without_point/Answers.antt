use Rattle.xc_forest.proofs.spans.row_without_point.Goals as goal

pub returns-then-minus : goal.returns-then-minus
returns-then-minus g c x y d h k = rw c.if-minus.true (record { low = c.sum.ensures x.low y.low d h.low k.low; high = c.sum-then-minus.ensures x.high y.high d h.high k.high })

pub returns-else-minus : goal.returns-else-minus
returns-else-minus g c x y d h k = rw c.if-minus.false (record { low = c.difference.ensures x.low y.high d h.low k.high; high = c.difference-else-minus.ensures x.high y.low d h.high k.low })
