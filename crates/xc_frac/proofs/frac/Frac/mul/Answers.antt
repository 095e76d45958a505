use Rattle.xc_frac.proofs.Answered.{product_over_ok, product_room_ok}
use Rattle.xc_frac.proofs.frac.Frac.mul.Goals as goal

pub returns-clause-over : goal.returns-clause-over
returns-clause-over c n m p d e k left right times = rw c.ok_or.ensures.value (product_over_ok _ c.args.self c.args.other n m p d e k left right times c.product.result c.product.ensures.exact)

pub returns-clause-room : goal.returns-clause-room
returns-clause-room c n m p d e k left right times small narrow =
    rw c.ok_or.ensures.value (product_room_ok _ c.args.self c.args.other n m p d e k left right times c.product.result c.product.ensures.passes small narrow)
