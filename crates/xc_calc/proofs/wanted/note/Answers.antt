use Rattle.std.proofs.Common.{◌==◌, ◌||◌, ap, ◌∙◌}
use Rattle.xc_lists.proofs.Anys.{or_along}
use Rattle.xc_names.specs.NameSets.{is_among}
use Rattle.xc_calc.proofs.wanted.note.Goals as goal

pub returns : goal.returns
returns c = λ n.
    let old = c.args.numbers.now in
    let from = c.args.arc.from.0 in
    let to = c.args.arc.to.0 in
    c.in_ok-insert-2.ensures.more n
    ∙ ap (λ b. b || (to == n)) (c.in_ok-insert.ensures.more n)
    ∙ or_along (is_among old n) (from == n) (to == n)
