use Rattle.std.proofs.Common.{◌∙◌, sym, rules, arith}
use Rattle.xc_elements.proofs.WordLaws.{text_of_one, nothing_of_one}
use Rattle.xc_elements.proofs.NumberLaws.{beyond, one_more_digit, from_other, from_end, from_start, numbered_nothing}
use Rattle.xc_elements.proofs.references.character_numbered.Goals as goal

pub returns-then-is_nothing : goal.returns-then-is_nothing
returns-then-is_nothing c = numbered_nothing c.args.base _ (search rules)

pub loop-c-init : goal.loop-c-init
loop-c-init c = (search rules, omega arith, from_start c.args.base _ (search rules))

pub returns-in_default-to_digit : goal.returns-in_default-to_digit
returns-in_default-to_digit c =
    sym (from_other c.args.base c.loop-c.number c.in-Some.c _ _ (text_of_one _ _ _ c.in-Some.ensures.value) (omega (arith, c.in_default-to_digit.ensures.value))) ∙ c.loop-c.invariant.2

pub returns-then-number-gt1114111 : goal.returns-then-number-gt1114111
returns-then-number-gt1114111 c =
    let digit = c.in-Some-to_digit.ensures.value in
    sym (one_more_digit c.args.base c.loop-c.number c.in-Some.c c.in-Some-to_digit.digit _ _ (text_of_one _ _ _ c.in-Some.ensures.value) digit.0 digit.1
    ∙ beyond c.args.base _ _ c.if-number-gt1114111.true (omega arith))
    ∙ c.loop-c.invariant.2

pub loop-c-preserved : goal.loop-c-preserved
loop-c-preserved c =
    let digit = c.in-Some-to_digit.ensures.value in (
      search rules,
      omega arith,
      sym (one_more_digit c.args.base c.loop-c.number c.in-Some.c c.in-Some-to_digit.digit _ _ (text_of_one _ _ _ c.in-Some.ensures.value) digit.0 digit.1)
          ∙ c.loop-c.invariant.2,
    )

pub returns : goal.returns
returns c = c.character_of_number.ensures ∙ sym (from_end c.args.base c.loop-c.number _ (nothing_of_one _ c.in_default.ensures.value)) ∙ c.loop-c.invariant.2
