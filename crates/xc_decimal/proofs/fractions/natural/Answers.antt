use Rattle.std.proofs.Common.{refl, sym}
use Rattle.xc_decimal.proofs.Numerals.{natural_is, not_natural}
use Rattle.xc_decimal.proofs.fractions.natural.Goals as goal

pub returns-then-not-is_numeral : goal.returns-then-not-is_numeral
returns-then-not-is_numeral c = not_natural c.args.digits.now (sym c.if-not-is_numeral.ensures)

pub returns : goal.returns
returns c = natural_is c.args.digits.now c.number_behind.result _ refl (sym c.if-not-is_numeral.ensures) c.number_behind.ensures
