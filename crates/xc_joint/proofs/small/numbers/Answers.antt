use Rattle.xc_joint.proofs.Rooms.{parts_within}
use Rattle.std.proofs.lemmas.Result.{IfOk-weaker}
use Rattle.xc_joint.specs.Small.{AreAt, AreNumbersOf}
use Rattle.xc_model.specs.Ratio.{fraction_of}
use Rattle.xc_joint.proofs.small.numbers.Goals as goal

pub returns-in-Ok-clause-are : goal.returns-in-Ok-clause-are
returns-in-Ok-clause-are c =
    IfOk-weaker c.numbers_at.result (λ xs. AreAt (fraction_of c.in-Ok.small) c.args.values.now xs.items) (λ xs. AreNumbersOf c.args.ranges.now c.args.values.now xs.items)
    (λ xs h. record { small = fraction_of c.in-Ok.small; positive = c.in-Ok.ensures.positive; enough = c.in-Ok.ensures.small; at_small = h }) c.numbers_at.ensures.are

pub returns-in-Ok-clause-room : goal.returns-in-Ok-clause-room
returns-in-Ok-clause-room c = λ w room positive within.
    c.numbers_at.ensures.room w room (parts_within w c.args.ranges.now c.args.values.now c.requires within) (c.in-Ok.ensures.room w room positive within)
