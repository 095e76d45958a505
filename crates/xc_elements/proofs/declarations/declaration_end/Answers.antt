use Rattle.std.proofs.Common.{◌∙◌, sym, ap, rules}
use Rattle.std.specs.Str.{chars}
use Rattle.xc_elements.specs.Items.{part_or_end}
use Rattle.xc_elements.specs.Steps.Views.{part_or_end_view}
use Rattle.xc_elements.proofs.FrontLaws.{found}
use Rattle.xc_elements.proofs.SequenceLaws.{turns_from_ends}
use Rattle.xc_elements.proofs.ItemLaws.{part_or_end_ends}
use Rattle.xc_elements.proofs.LoopLaws.{leads_none, leads_more, leads_last, leads_nowhere, more_shorter}
use Rattle.xc_elements.proofs.declarations.declaration_end.Goals as goal

pub loop-is_last-init : goal.loop-is_last-init
loop-is_last-init c = (search rules, leads_none part_or_end (chars c.args.text.now))

pub returns-then-is_last : goal.returns-then-is_last
returns-then-is_last c =
    leads_last part_or_end (chars c.args.text.now) (chars c.loop-is_last.rest.now) (chars c.in-Some.after.now) _ (turns_from_ends part_or_end_ends)
    (sym (ap (λ t. found (part_or_end_view t) (chars c.in-Some.after.now)) c.if-is_last.true) ∙ c.in-Some.ensures)
    c.loop-is_last.invariant.1

pub loop-is_last-smaller : goal.loop-is_last-smaller
loop-is_last-smaller c =
    more_shorter part_or_end (chars c.loop-is_last.rest.now) (chars c.in-Some.after.now) _ (turns_from_ends part_or_end_ends)
    (sym (ap (λ t. found (part_or_end_view t) (chars c.in-Some.after.now)) c.if-is_last.false) ∙ c.in-Some.ensures)

pub loop-is_last-preserved : goal.loop-is_last-preserved
loop-is_last-preserved c = (
  search rules,
  leads_more part_or_end (chars c.args.text.now) (chars c.loop-is_last.rest.now) (chars c.in-Some.after.now) _ (turns_from_ends part_or_end_ends)
      (sym (ap (λ t. found (part_or_end_view t) (chars c.in-Some.after.now)) c.if-is_last.false) ∙ c.in-Some.ensures)
      c.loop-is_last.invariant.1,
)

pub returns : goal.returns
returns c = leads_nowhere part_or_end (chars c.args.text.now) (chars c.loop-is_last.rest.now) c.in_default.ensures c.loop-is_last.invariant.1
