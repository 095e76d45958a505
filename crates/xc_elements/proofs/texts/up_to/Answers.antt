use Rattle.std.proofs.Common.{sym, rules}
use Rattle.std.specs.Str.{chars}
use Rattle.xc_elements.specs.Fronts.{up_to}
use Rattle.xc_elements.proofs.WordLaws.{text_of_one, nothing_of_one}
use Rattle.xc_elements.proofs.ReadLaws.{passed_more, passed_all, passed_to_none, up_to_on, up_to_ends_here, up_to_refuses, up_to_none}
use Rattle.xc_elements.proofs.texts.up_to.Goals as goal

pub returns-in-Some-exactly : goal.returns-in-Some-exactly
returns-in-Some-exactly c =
    passed_all (up_to c.args.mark.now) (chars c.args.text.now) (chars c.loop-c.rest.now) _ _ c.loop-c.invariant.1 c.text_before.ensures
    (up_to_ends_here c.args.mark.now _ _ _ c.in-Some.c (text_of_one _ _ _ c.in-Some.ensures.value) (sym c.in-Some-exactly.ensures))

pub returns-then-not-is_character : goal.returns-then-not-is_character
returns-then-not-is_character c =
    passed_to_none (up_to c.args.mark.now) _ _ c.loop-c.invariant.1
    (up_to_refuses c.args.mark.now _ _ c.in-Some.c (text_of_one _ _ _ c.in-Some.ensures.value) (sym c.in_default-exactly.ensures) (search rules))

pub loop-c-preserved : goal.loop-c-preserved
loop-c-preserved c =
    let e = text_of_one _ _ _ c.in-Some.ensures.value in
    (search rules, passed_more (up_to c.args.mark.now) _ _ _ c.in-Some.c c.loop-c.invariant.1 e (up_to_on c.args.mark.now _ _ c.in-Some.c e (sym c.in_default-exactly.ensures) (search rules)))

pub returns : goal.returns
returns c = passed_to_none (up_to c.args.mark.now) _ _ c.loop-c.invariant.1 (up_to_none c.args.mark.now _ (nothing_of_one _ c.in_default.ensures.value))
