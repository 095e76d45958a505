use Rattle.std.proofs.Common.{rules, subst, sym, ◌∙◌}
use Rattle.std.specs.Prelude.{Ok, Err}
use Rattle.xc_decimal.specs.Digits.{AreDigits}
use Rattle.xc_decimal.specs.declared.decimal.DecimalFault.TheVariants.{NotDecimal, Wide}
use Rattle.xc_decimal.specs.Reading.{joined}
use Rattle.xc_decimal.proofs.Computed.{reading_is}
use Rattle.xc_decimal.proofs.ReadAsSpelled.{is_reading, trimmed_digits, fraction_tested}
use Rattle.xc_decimal.proofs.Trimmed.{not_zero_last}
use Rattle.xc_decimal.proofs.reading.read_decimal.Goals as goal

pub narrow-requires-clause-last : goal.narrow-requires-clause-last
narrow-requires-clause-last c front e = not_zero_last c.around_point.result.1.now front (sym c.trimmed.ensures ∙ e)

pub narrow-requires-clause-kept : goal.narrow-requires-clause-kept
narrow-requires-clause-kept c =
    subst AreDigits (sym c.trimmed.ensures) (trimmed_digits c.around_point.result.1.now (fraction_tested c.around_point.result.0.now c.around_point.result.1.now (sym c.are_parts.ensures ∙ c.if-not-are_parts.false)))

pub returns-in-None-clause-answers : goal.returns-in-None-clause-answers
returns-in-None-clause-answers c = (joined c.without_sign-negative.result.0 c.around_point.result.0.now c.trimmed.result.now, (search rules, c.in-None.ensures))

pub returns-then-not-are_parts-clause-reads : goal.returns-then-not-are_parts-clause-reads
returns-then-not-are_parts-clause-reads c = is_reading c.args.text.now (Err NotDecimal) (search rules)

pub returns-in-Some-clause-reads : goal.returns-in-Some-clause-reads
returns-in-Some-clause-reads c = is_reading c.args.text.now (Ok c.in-Some.number) (search rules)

pub returns-in-None-clause-reads : goal.returns-in-None-clause-reads
returns-in-None-clause-reads c = is_reading c.args.text.now (Err Wide) (returns-in-None-clause-answers c)

pub returns-in-Some-clause-number : goal.returns-in-Some-clause-number
returns-in-Some-clause-number c = reading_is (Ok c.in-Some.number) c.args.text.now (search rules)

pub returns-in-None-clause-number : goal.returns-in-None-clause-number
returns-in-None-clause-number c = reading_is (Err Wide) c.args.text.now (returns-in-None-clause-answers c)
