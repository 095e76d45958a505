use Rattle.std.proofs.Common.{◌==◌, ◌&&◌, ◌||◌, ap, sym, ◌∙◌}
use Rattle.std.proofs.Math.Bool.{and-true}
use Rattle.xc_names.specs.NameSets.{is_among}
use Rattle.xc_concepts.proofs.typed.note_typed.Goals as goal

pub returns-in_ok-insert : goal.returns-in_ok-insert
returns-in_ok-insert c = λ n.
    let number = c.args.concept.now.number.0 in
    c.in_ok-insert.ensures.more n
    ∙ ap (λ b. is_among c.args.numbers.now n || b) (sym (ap (λ t. (number == n) && t) c.if-concept.true ∙ and-true (number == n)))
