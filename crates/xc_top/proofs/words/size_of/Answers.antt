use Rattle.std.proofs.Common.{◌≡◌, ◌∙◌, true, ap, sym, rules}
use Rattle.xc_top.proofs.Sizes.{given, read_size}
use Rattle.xc_top.proofs.words.size_of.Goals as goal
use Rattle.xc_top.specs.Words.{is_numeral}

pub returns-in-Ok : goal.returns-in-Ok
returns-in-Ok c =
    let numeral : is_numeral c.args.word.now ≡ true = search rules in
    c.size.ensures ∙ ap given (sym c.in-Ok.is) ∙ read_size c.args.word.now c.parse.result numeral c.parse.ensures.value.0

pub returns-in-Err : goal.returns-in-Err
returns-in-Err c =
    let numeral : is_numeral c.args.word.now ≡ true = search rules in
    ap given (sym c.in-Err.is) ∙ read_size c.args.word.now c.parse.result numeral c.parse.ensures.value.0
