use Rattle.std.proofs.Common.{sym, ◌∙◌, subst}
use Rattle.std.specs.Prelude.{◌<◌, ◌^◌}
use Rattle.std.specs.Option.{SomeIff}
use Rattle.xc_cert.proofs.Naturals.{other_den, below_zero, not_below_zero}
use Rattle.xc_cert.proofs.line.whole_number.Goals as goal

pub returns-then-denominator-ne1 : goal.returns-then-denominator-ne1
returns-then-denominator-ne1 c = other_den c.args.value (λ e. c.if-denominator-ne1.true (c.denominator.ensures ∙ e))

pub returns-then-is_negative : goal.returns-then-is_negative
returns-then-is_negative c = below_zero c.args.value (sym c.is_negative.ensures ∙ c.if-is_negative.true)

pub returns : goal.returns
returns c = not_below_zero c.args.value c.narrow.result (sym c.denominator.ensures ∙ c.if-denominator-ne1.false) (sym c.is_negative.ensures ∙ c.if-is_negative.false) (subst (λ n. SomeIff c.narrow.result (n < 2 ^ 32) n) c.magnitude.ensures c.narrow.ensures)
