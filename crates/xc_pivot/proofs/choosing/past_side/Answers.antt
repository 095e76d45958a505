use Rattle.xc_pivot.proofs.choosing.past_side.Goals as goal

pub returns-then-is_below : goal.returns-then-is_below
returns-then-is_below c n l a h low value high = c.if-is_below.ensures n a l value low

pub returns-then-is_below-2 : goal.returns-then-is_below-2
returns-then-is_below-2 c n l a h low value high = c.if-is_below-2.ensures n h a high value

pub returns : goal.returns
returns c n l a h low value high = (c.if-is_below.ensures n a l value low, c.if-is_below-2.ensures n h a high value)
