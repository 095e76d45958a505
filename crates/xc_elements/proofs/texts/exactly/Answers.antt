use Rattle.std.proofs.Common.{◌∙◌, rules}
use Rattle.std.specs.Str.{chars}
use Rattle.xc_elements.proofs.WordLaws.{text_of_one, nothing_of_one, exactly_more, exactly_other, exactly_short, exactly_all}
use Rattle.xc_elements.proofs.texts.exactly.Goals as goal

pub returns-then-c-wanted : goal.returns-then-c-wanted
returns-then-c-wanted c =
    exactly_other c.args.word.now (chars c.loop-wanted.rest.now) (chars c.in-Some.after.now) c.loop-wanted.wanted-index c.wanted-item.result c.in-Some.c c.loop-wanted-test.true c.wanted-item.is (text_of_one _ _ _ c.in-Some.ensures.value) c.if-c-wanted.true
    ∙ c.loop-wanted.invariant.1

pub returns-in-None : goal.returns-in-None
returns-in-None c =
    exactly_short c.args.word.now (chars c.loop-wanted.rest.now) c.loop-wanted.wanted-index c.wanted-item.result c.loop-wanted-test.true c.wanted-item.is (nothing_of_one _ c.in-None.ensures.value)
    ∙ c.loop-wanted.invariant.1

pub loop-wanted-preserved : goal.loop-wanted-preserved
loop-wanted-preserved c = (
  search rules,
  exactly_more c.args.word.now (chars c.loop-wanted.rest.now) (chars c.in-Some.after.now) c.loop-wanted.wanted-index c.wanted-item.result c.in-Some.c c.loop-wanted-test.true c.wanted-item.is (text_of_one _ _ _ c.in-Some.ensures.value) c.if-c-wanted.false
      ∙ c.loop-wanted.invariant.1,
)

pub returns : goal.returns
returns c = exactly_all c.args.word.now (chars c.loop-wanted.rest.now) c.loop-wanted.wanted-index c.loop-wanted-test.false ∙ c.loop-wanted.invariant.1
