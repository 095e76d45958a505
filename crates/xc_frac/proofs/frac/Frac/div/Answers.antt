use Rattle.xc_frac.proofs.Answered.{quotient_exact, quotient_fits, quotient_passes_err, quotient_over_ok, quotient_room_ok}
use Rattle.xc_frac.proofs.Inverses.{IsInverse}
use Rattle.xc_frac.proofs.frac.Frac.div.Goals as goal
use Rattle.xc_frac.proofs.frac.Frac.div.Goals.{After-ok_or}

is_inverse : (c : After-ok_or) → IsInverse c.inverse.result c.args.other
is_inverse c = record { some = c.requires; cross = c.inverse.ensures }

pub returns-clause-exact : goal.returns-clause-exact
returns-clause-exact c = rw c.ok_or.ensures.value (quotient_exact _ c.args.self c.args.other c.inverse.result (is_inverse c) c.product.result c.product.ensures.exact)

pub returns-clause-fits : goal.returns-clause-fits
returns-clause-fits c = rw c.ok_or.ensures.value (quotient_fits _ c.args.self c.args.other c.inverse.result (is_inverse c) c.product.result c.product.ensures.exact)

pub returns-clause-passes : goal.returns-clause-passes
returns-clause-passes c = rw c.ok_or.ensures.value (quotient_passes_err _ c.args.self c.args.other c.inverse.result (is_inverse c) c.product.result c.product.ensures.passes)

pub returns-clause-over : goal.returns-clause-over
returns-clause-over c n m p d e k left right by =
    rw c.ok_or.ensures.value (quotient_over_ok _ c.args.self c.args.other c.inverse.result (is_inverse c) n m p d e k left right by c.product.result c.product.ensures.exact)

pub returns-clause-room : goal.returns-clause-room
returns-clause-room c n m p d e k left right by small narrow =
    rw c.ok_or.ensures.value (quotient_room_ok _ c.args.self c.args.other c.inverse.result (is_inverse c) n m p d e k left right by c.product.result c.product.ensures.passes small narrow)
