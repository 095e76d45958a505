use Rattle.xc_frac.proofs.Answered.{sum_over_ok, sum_room_ok}
use Rattle.xc_frac.proofs.frac.Frac.add.Goals as goal

pub returns-clause-over : goal.returns-clause-over
returns-clause-over c n m d left right = rw c.ok_or.ensures.value (sum_over_ok _ c.args.self c.args.other c.sum.result n m d c.sum.ensures.exact left right)

pub returns-clause-room : goal.returns-clause-room
returns-clause-room c n m d left right d_narrow n_narrow m_narrow sum_narrow =
    rw c.ok_or.ensures.value (sum_room_ok _ c.args.self c.args.other c.sum.result n m d c.sum.ensures.passes left right d_narrow n_narrow m_narrow sum_narrow)
