use Rattle.xc_forest.proofs.SplitSteps.{low_plus, low_minus, end_plus, end_minus}
use Rattle.xc_model.specs.Parts.{whole_sum, whole_difference}
use Rattle.xc_forest.proofs.values.split.Goals as goal

pub returns-then-is_less : goal.returns-then-is_less
returns-then-is_less g c x y t d h k r m n w = rw c.if-minus.true (record {
  row = x.high;
  point = whole_difference t x.high;
  row_over = h.high;
  point_over = c.difference.ensures t x.high d r h.high;
  split = end_minus x y t m (rw c.if-minus.true at w) (c.if-is_less.ensures x.high (whole_difference t y.low) d h.high (c.difference-with_low.ensures t y.low d r k.low));
})

pub returns-else-is_less : goal.returns-else-is_less
returns-else-is_less g c x y t d h k r m n w = rw c.if-minus.true (record {
  row = whole_difference t y.low;
  point = y.low;
  row_over = c.difference-with_low.ensures t y.low d r k.low;
  point_over = k.low;
  split = low_minus x y t n (rw c.if-minus.true at w) (c.if-is_less.ensures x.high (whole_difference t y.low) d h.high (c.difference-with_low.ensures t y.low d r k.low));
})

pub returns-then-is_less-2 : goal.returns-then-is_less-2
returns-then-is_less-2 g c x y t d h k r m n w = rw c.if-minus.false (record {
  row = x.low;
  point = whole_difference x.low t;
  row_over = h.low;
  point_over = c.difference-then-is_less-2.ensures x.low t d h.low r;
  split = end_plus x y t m (rw c.if-minus.false at w) (c.if-is_less-2.ensures (whole_sum t y.low) x.low d (c.sum-with_low.ensures t y.low d r k.low) h.low);
})

pub returns-else-is_less-2 : goal.returns-else-is_less-2
returns-else-is_less-2 g c x y t d h k r m n w = rw c.if-minus.false (record {
  row = whole_sum t y.low;
  point = y.low;
  row_over = c.sum-with_low.ensures t y.low d r k.low;
  point_over = k.low;
  split = low_plus x y t n (rw c.if-minus.false at w) (c.if-is_less-2.ensures (whole_sum t y.low) x.low d (c.sum-with_low.ensures t y.low d r k.low) h.low);
})
