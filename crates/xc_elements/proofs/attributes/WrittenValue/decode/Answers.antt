use Rattle.std.proofs.Common.{◌∙◌, ℕ, List, [], ◌∷◌, ◌++◌, sym, ap, rules}
use Rattle.std.specs.Prelude.{encode_utf8_all, string_bytes}
use Rattle.std.specs.Str.{chars}
use Rattle.xc_elements.specs.Items.{character_or_end}
use Rattle.xc_elements.specs.Steps.Views.{lent_text, character_or_end_view}
use Rattle.xc_elements.proofs.FrontLaws.{found}
use Rattle.xc_elements.proofs.ItemLaws.{value_turns}
use Rattle.xc_elements.proofs.LoopLaws.{more_shorter}
use Rattle.xc_elements.proofs.GatherLaws.{gathers_none, gathers_more, gathers_last, gathers_nowhere, value_of_turns, no_value, one_more_encoded}
use Rattle.xc_elements.proofs.attributes.WrittenValue.decode.Goals as goal

pub loop-turn-init : goal.loop-turn-init
loop-turn-init c = (search rules, ([], search rules, gathers_none (character_or_end c.args.self.now.mark) (lent_text c.args.self.now.text)))

pub loop-turn-smaller : goal.loop-turn-smaller
loop-turn-smaller c =
    more_shorter (character_or_end c.args.self.now.mark) (chars c.loop-turn.rest.now) (chars c.in-Some.after.now) c.in-Some-turn.c (value_turns c.args.self.now.mark)
    (sym (ap (λ t. found (character_or_end_view t) (chars c.in-Some.after.now)) c.in-Some-turn.is) ∙ c.in-Some.ensures)

pub loop-turn-preserved : goal.loop-turn-preserved
loop-turn-preserved c =
    let kept = c.loop-turn.invariant.1 in (
      search rules,
      (
        kept.0 ++ c.in-Some-turn.c ∷ [],
        one_more_encoded (string_bytes c.push.new.self) (string_bytes c.loop-turn.value) kept.0 c.in-Some-turn.c kept.1 c.in_ok-push-in-Some-turn.ensures.bytes,
        gathers_more (character_or_end c.args.self.now.mark) (lent_text c.args.self.now.text) (chars c.loop-turn.rest.now) (chars c.in-Some.after.now) kept.0 c.in-Some-turn.c (value_turns c.args.self.now.mark)
            (sym (ap (λ t. found (character_or_end_view t) (chars c.in-Some.after.now)) c.in-Some-turn.is) ∙ c.in-Some.ensures)
            kept.2,
      ),
    )

pub returns-in-None : goal.returns-in-None
returns-in-None c =
    let kept = c.loop-turn.invariant.1 in
    let whole = gathers_last (character_or_end c.args.self.now.mark) (lent_text c.args.self.now.text) (chars c.loop-turn.rest.now) (chars c.in-Some.after.now) kept.0 tt (value_turns c.args.self.now.mark)
    (sym (ap (λ t. found (character_or_end_view t) (chars c.in-Some.after.now)) c.in-None.is) ∙ c.in-Some.ensures)
    kept.2 in
    c.of.ensures ∙ kept.1 ∙ ap (λ (cs : List ℕ). encode_utf8_all cs) (sym (value_of_turns c.args.self.now.mark (lent_text c.args.self.now.text) (chars c.in-Some.after.now) kept.0 whole))

pub returns : goal.returns
returns c =
    let kept = c.loop-turn.invariant.1 in
    absurd (no_value c.args.self.now.mark (lent_text c.args.self.now.text) (gathers_nowhere (character_or_end c.args.self.now.mark) (lent_text c.args.self.now.text) (chars c.loop-turn.rest.now) kept.0 c.in_default.ensures kept.2) c.requires)
