use Rattle.std.proofs.Common.{sym, ap, ◌∙◌, rules}
use Rattle.std.specs.Prelude.{false, encode_utf8_all}
use Rattle.std.specs.Str.{chars}
use Rattle.xc_elements.specs.Elements.{section_text}
use Rattle.xc_elements.specs.Steps.Kept.{with_text}
use Rattle.xc_elements.proofs.WordLaws.{text_of_one, nothing_of_one}
use Rattle.xc_elements.proofs.OpenLaws.{section_more, with_nothing}
use Rattle.xc_elements.proofs.opens.Opens.add_section.Goals as goal

pub loop-c-preserved : goal.loop-c-preserved
loop-c-preserved c =
    let e = text_of_one (chars c.loop-c.rest.now) (chars c.in-Some.after.now) c.in-Some.c c.in-Some.ensures.value in (
      search rules,
      section_more c.loop-c.behind_return c.in-Some.c (chars c.in-Some.after.now) c.args.self.now c.loop-c.self c.add_written.new.self (section_text false (chars c.args.text.now))
          (c.loop-c.invariant.1 ∙ ap (λ cs. with_text (encode_utf8_all (section_text c.loop-c.behind_return cs)) c.loop-c.self) e)
          c.in_ok-add_written.ensures,
    )

pub returns : goal.returns
returns c =
    let e = nothing_of_one (chars c.loop-c.rest.now) c.in_default.ensures.value in
    sym (c.loop-c.invariant.1 ∙ ap (λ cs. with_text (encode_utf8_all (section_text c.loop-c.behind_return cs)) c.loop-c.self) e ∙ with_nothing c.loop-c.self)
