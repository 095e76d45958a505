use Rattle.std.proofs.Common.{◌∙◌, sym, ap, rules}
use Rattle.std.specs.Str.{chars}
use Rattle.xc_elements.specs.Items.{character_or_end}
use Rattle.xc_elements.specs.Steps.Views.{character_or_end_view}
use Rattle.xc_elements.proofs.FrontLaws.{found}
use Rattle.xc_elements.proofs.ItemLaws.{value_turns}
use Rattle.xc_elements.proofs.LoopLaws.{leads_none, leads_more, leads_last, leads_nowhere, more_shorter}
use Rattle.xc_elements.proofs.attributes.value_end.Goals as goal

pub loop-turn-init : goal.loop-turn-init
loop-turn-init c = (search rules, leads_none (character_or_end c.args.mark) (chars c.args.text.now))

pub returns-in-None : goal.returns-in-None
returns-in-None c =
    leads_last (character_or_end c.args.mark) (chars c.args.text.now) (chars c.loop-turn.rest.now) (chars c.in-Some.after.now) _ (value_turns c.args.mark)
    (sym (ap (λ t. found (character_or_end_view t) (chars c.in-Some.after.now)) c.in-None.is) ∙ c.in-Some.ensures)
    c.loop-turn.invariant.1

pub loop-turn-smaller : goal.loop-turn-smaller
loop-turn-smaller c =
    more_shorter (character_or_end c.args.mark) (chars c.loop-turn.rest.now) (chars c.in-Some.after.now) _ (value_turns c.args.mark)
    (sym (ap (λ t. found (character_or_end_view t) (chars c.in-Some.after.now)) c.in-Some-turn.is) ∙ c.in-Some.ensures)

pub loop-turn-preserved : goal.loop-turn-preserved
loop-turn-preserved c = (
  search rules,
  leads_more (character_or_end c.args.mark) (chars c.args.text.now) (chars c.loop-turn.rest.now) (chars c.in-Some.after.now) _ (value_turns c.args.mark)
      (sym (ap (λ t. found (character_or_end_view t) (chars c.in-Some.after.now)) c.in-Some-turn.is) ∙ c.in-Some.ensures)
      c.loop-turn.invariant.1,
)

pub returns : goal.returns
returns c = leads_nowhere (character_or_end c.args.mark) (chars c.args.text.now) (chars c.loop-turn.rest.now) c.in_default.ensures c.loop-turn.invariant.1
