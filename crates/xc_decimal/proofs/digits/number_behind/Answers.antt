use Rattle.xc_decimal.proofs.Behind.{too_great}
use Rattle.xc_decimal.proofs.digits.number_behind.Goals as goal

pub returns-in_default : goal.returns-in_default
returns-in_default c within = too_great c.args.most c.loop-digit.number _ c.args.digits.now c.loop-digit.digit-index _ c.loop-digit-test.true c.loop-digit.invariant.left c.in_default.ensures within
