use Rattle.std.proofs.Common.{◌∙◌, sym, ap, rules}
use Rattle.std.specs.Str.{chars}
use Rattle.xc_elements.specs.Items.{attribute_or_end, tag_rest}
use Rattle.xc_elements.specs.Steps.Views.{tag_part_view}
use Rattle.xc_elements.proofs.FrontLaws.{found}
use Rattle.xc_elements.proofs.SequenceLaws.{turns_from_ends}
use Rattle.xc_elements.proofs.ItemLaws.{attribute_or_end_ends}
use Rattle.xc_elements.proofs.LoopLaws.{leads_none, leads_more, leads_last, leads_nowhere, more_shorter}
use Rattle.xc_elements.proofs.tags.tag_end.Goals as goal

pub loop-part-init : goal.loop-part-init
loop-part-init c = (search rules, leads_none attribute_or_end (chars c.args.text.now))

pub returns-in-End : goal.returns-in-End
unfolding tag_rest
returns-in-End c =
    leads_last attribute_or_end (chars c.args.text.now) (chars c.loop-part.rest.now) (chars c.in-Some.after.now) _ (turns_from_ends attribute_or_end_ends)
    (sym (ap (λ t. found (tag_part_view t) (chars c.in-Some.after.now)) c.in-End.is) ∙ c.in-Some.ensures.value)
    c.loop-part.invariant.1

pub loop-part-smaller : goal.loop-part-smaller
loop-part-smaller c =
    more_shorter attribute_or_end (chars c.loop-part.rest.now) (chars c.in-Some.after.now) _ (turns_from_ends attribute_or_end_ends)
    (sym (ap (λ t. found (tag_part_view t) (chars c.in-Some.after.now)) c.in-Attribute.is) ∙ c.in-Some.ensures.value)

pub loop-part-preserved : goal.loop-part-preserved
loop-part-preserved c = (
  search rules,
  leads_more attribute_or_end (chars c.args.text.now) (chars c.loop-part.rest.now) (chars c.in-Some.after.now) _ (turns_from_ends attribute_or_end_ends)
      (sym (ap (λ t. found (tag_part_view t) (chars c.in-Some.after.now)) c.in-Attribute.is) ∙ c.in-Some.ensures.value)
      c.loop-part.invariant.1,
)

pub returns : goal.returns
unfolding tag_rest
returns c = leads_nowhere attribute_or_end (chars c.args.text.now) (chars c.loop-part.rest.now) c.in_default.ensures.value c.loop-part.invariant.1
