use Rattle.std.proofs.Common.{arith}
use Rattle.std.specs.Prelude.{neg_ℤ}
use Rattle.xc_model.specs.Width.{IsNarrow}
use Rattle.xc_model.proofs.Integers.{unsigned_abs-neg}
use Rattle.xc_frac.proofs.Answered.{sum_over_ok, sum_room_ok, difference_exact, difference_fits, difference_passes}
use Rattle.xc_frac.proofs.frac.Frac.sub.Goals as goal

pub returns-clause-exact : goal.returns-clause-exact
returns-clause-exact c = rw c.ok_or.ensures.value (difference_exact _ c.args.self c.args.other c.neg.result c.neg.ensures.exact c.sum.result c.sum.ensures.exact)

pub returns-clause-fits : goal.returns-clause-fits
returns-clause-fits c = rw c.ok_or.ensures.value (difference_fits _ c.args.self c.args.other c.neg.result c.neg.ensures.exact c.sum.result c.sum.ensures.fits)

pub returns-clause-passes : goal.returns-clause-passes
returns-clause-passes c = rw c.ok_or.ensures.value (difference_passes _ c.args.self c.args.other c.neg.result c.neg.ensures.exact c.sum.result c.sum.ensures.passes)

pub returns-clause-over : goal.returns-clause-over
returns-clause-over c n m d left right =
    rw c.ok_or.ensures.value (sum_over_ok _ c.args.self c.neg.result c.sum.result n (neg_ℤ m) d c.sum.ensures.exact left (c.neg.ensures.over m d right))

pub returns-clause-room : goal.returns-clause-room
returns-clause-room c n m d left right d_narrow n_narrow m_narrow difference_narrow =
    let narrow : IsNarrow (neg_ℤ m) = omega (arith, unsigned_abs-neg m, m_narrow) in
    rw c.ok_or.ensures.value (sum_room_ok _ c.args.self c.neg.result c.sum.result n (neg_ℤ m) d c.sum.ensures.passes left (c.neg.ensures.over m d right) d_narrow n_narrow narrow difference_narrow)
