use Rattle.std.proofs.Common.{rules}
use Rattle.std.specs.Str.{chars}
use Rattle.xc_elements.specs.Fronts.{run}
use Rattle.xc_elements.specs.Steps.Views.{is_in}
use Rattle.xc_elements.proofs.WordLaws.{text_of_one, nothing_of_one}
use Rattle.xc_elements.proofs.ReadLaws.{passed_more, passed_all, passed_to_none, run_on, run_ends, run_none}
use Rattle.xc_elements.proofs.texts.run.Goals as goal

pub returns-then-not-is_in : goal.returns-then-not-is_in
returns-then-not-is_in c =
    passed_all (run (is_in c.args.class)) (chars c.args.text.now) (chars c.loop-c.rest.now) _ _ c.loop-c.invariant.1 c.text_before.ensures
    (run_ends (is_in c.args.class) _ _ c.in-Some.c (text_of_one _ _ _ c.in-Some.ensures.value) (search rules))

pub loop-c-preserved : goal.loop-c-preserved
loop-c-preserved c =
    let e = text_of_one _ _ _ c.in-Some.ensures.value in
    (search rules, passed_more (run (is_in c.args.class)) _ _ _ c.in-Some.c c.loop-c.invariant.1 e (run_on (is_in c.args.class) _ _ c.in-Some.c e (search rules)))

pub returns : goal.returns
returns c = passed_to_none (run (is_in c.args.class)) _ _ c.loop-c.invariant.1 (run_none (is_in c.args.class) _ (nothing_of_one _ c.in_default.ensures.value))
