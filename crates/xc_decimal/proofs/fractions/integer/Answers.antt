use Rattle.std.proofs.Common.{sym, ◌∙◌}
use Rattle.xc_decimal.proofs.Whole.{not_integer, not_minus_zero}
use Rattle.xc_decimal.proofs.fractions.integer.Goals as goal

pub returns-in_default : goal.returns-in_default
returns-in_default c = not_integer c.args.text.now c.without_minus-negative.result.1.now c.without_minus-negative.ensures.rest c.in_default.ensures

pub returns-then-number-eq0 : goal.returns-then-number-eq0
returns-then-number-eq0 c = not_minus_zero c.args.text.now c.without_minus-negative.result.1.now c.in-Some.number (sym c.if-negative.true ∙ c.without_minus-negative.ensures.negative) c.without_minus-negative.ensures.rest c.if-number-eq0.true c.in-Some.ensures
