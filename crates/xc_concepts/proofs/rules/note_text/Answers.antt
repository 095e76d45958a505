use Rattle.std.proofs.Common.{◌≡◌, ◌||◌, Bool, true, false, not, refl, sym, ap, ◌∙◌}
use Rattle.xc_concepts.proofs.Repeats.{text_noted, text_there}
use Rattle.xc_concepts.specs.Steps.{has_text, is_text, is_text_of}
use Rattle.xc_concepts.proofs.rules.note_text.Goals as goal

twice : (b : Bool) → not (not b) ≡ b
twice true = refl
twice false = refl

pub returns-in_ok-insert-in-Some-clause-there : goal.returns-in_ok-insert-in-Some-clause-there
returns-in_ok-insert-in-Some-clause-there c =
    let old = c.args.texts.now.keys in
    ap not c.in_ok-insert-in-Some.ensures.added ∙ twice _ ∙ text_there old c.in-Some.text ∙ ap (is_text_of old) (sym c.in-Some.is)

pub returns-in_ok-insert-in-Some-clause-more : goal.returns-in_ok-insert-in-Some-clause-more
returns-in_ok-insert-in-Some-clause-more c = λ x.
    let old = c.args.texts.now.keys in
    ap (λ ks. has_text ks x) c.in_ok-insert-in-Some.ensures.keys ∙ text_noted old c.in-Some.text x ∙ ap (λ t. has_text old x || is_text x t) (sym c.in-Some.is)
