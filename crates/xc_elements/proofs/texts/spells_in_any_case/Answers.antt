use Rattle.std.proofs.Common.{◌∙◌, sym, ap, rules}
use Rattle.std.specs.Prelude.{map}
use Rattle.std.specs.Char.{to_ascii_lowercase}
use Rattle.std.specs.Str.{chars}
use Rattle.xc_elements.specs.Items.{is_whole}
use Rattle.xc_elements.proofs.WordLaws.{lower_text, lower_nothing, exactly_more, exactly_other, exactly_short, is_whole_of}
use Rattle.xc_elements.proofs.texts.spells_in_any_case.Goals as goal

pub returns-then-to_ascii_lowercase-wanted : goal.returns-then-to_ascii_lowercase-wanted
returns-then-to_ascii_lowercase-wanted c = ap is_whole
    (exactly_other c.args.word.now (map to_ascii_lowercase (chars c.loop-wanted.rest.now)) (map to_ascii_lowercase (chars c.in-Some.after.now)) c.loop-wanted.wanted-index c.wanted-item.result (to_ascii_lowercase c.in-Some.c) c.loop-wanted-test.true c.wanted-item.is (lower_text _ _ _ c.in-Some.ensures.value) (λ same. c.if-to_ascii_lowercase-wanted.true (c.to_ascii_lowercase.ensures.value ∙ same))
    ∙ c.loop-wanted.invariant.1)

pub returns-in-None : goal.returns-in-None
returns-in-None c = ap is_whole
    (exactly_short c.args.word.now (map to_ascii_lowercase (chars c.loop-wanted.rest.now)) c.loop-wanted.wanted-index c.wanted-item.result c.loop-wanted-test.true c.wanted-item.is (lower_nothing _ c.in-None.ensures.value)
    ∙ c.loop-wanted.invariant.1)

pub loop-wanted-preserved : goal.loop-wanted-preserved
loop-wanted-preserved c = (
  search rules,
  exactly_more c.args.word.now (map to_ascii_lowercase (chars c.loop-wanted.rest.now)) (map to_ascii_lowercase (chars c.in-Some.after.now)) c.loop-wanted.wanted-index c.wanted-item.result (to_ascii_lowercase c.in-Some.c) c.loop-wanted-test.true c.wanted-item.is (lower_text _ _ _ c.in-Some.ensures.value) (sym c.to_ascii_lowercase.ensures.value ∙ c.if-to_ascii_lowercase-wanted.false)
      ∙ c.loop-wanted.invariant.1,
)

pub returns : goal.returns
returns c = is_whole_of c.args.word.now (chars c.loop-wanted.rest.now) c.loop-wanted.wanted-index _ c.is_nothing.ensures c.loop-wanted-test.false ∙ ap is_whole c.loop-wanted.invariant.1
