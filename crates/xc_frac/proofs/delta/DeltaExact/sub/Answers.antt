use Rattle.std.specs.Prelude.{neg_ℤ}
use Rattle.xc_model.specs.Parts.{whole_alone}
use Rattle.xc_frac.specs.Rooms.{alone_over, alone_fit}
use Rattle.xc_frac.proofs.PartsOver.{difference_parts_over}
use Rattle.xc_frac.proofs.delta.DeltaExact.sub.Goals as goal

pub returns-in_err-real-clause-room : goal.returns-in_err-real-clause-room
returns-in_err-real-clause-room g c a b d left right fit =
    let own = alone_over _ a.real d (g.met.K.Scalar.no_tiny c.args.self.real) left.real in
    let others = alone_over _ b.real d (g.met.K.Scalar.no_tiny c.args.other.real) right.real in
    absurd (cc (c.in_err-real.ensures.room (whole_alone a.real) (whole_alone b.real) d own others (alone_fit a.real (neg_ℤ b.real) d fit.real)))

pub returns-in_err-tiny-clause-room : goal.returns-in_err-tiny-clause-room
returns-in_err-tiny-clause-room g c a b d left right fit =
    let own = alone_over _ a.tiny d (g.met.K.Scalar.no_tiny c.args.self.tiny) left.tiny in
    let others = alone_over _ b.tiny d (g.met.K.Scalar.no_tiny c.args.other.tiny) right.tiny in
    absurd (cc (c.in_err-tiny.ensures.room (whole_alone a.tiny) (whole_alone b.tiny) d own others (alone_fit a.tiny (neg_ℤ b.tiny) d fit.tiny)))

pub returns-clause-over : goal.returns-clause-over
returns-clause-over g c a b d left right = difference_parts_over _ _ _ a b d (record { real = c.in_ok-real.ensures.exact.real; tiny = c.in_ok-tiny.ensures.exact.real }) left right
