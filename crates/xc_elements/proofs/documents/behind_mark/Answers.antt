use Rattle.std.proofs.Common.{[], ◌∷◌, rules}
use Rattle.std.specs.Str.{IsUtf8}
use Rattle.xc_elements.proofs.TextLaws.{bytes_before}
use Rattle.xc_elements.proofs.WordLaws.{text_of_one}
use Rattle.xc_elements.proofs.documents.behind_mark.Goals as goal

pub returns-then-c-eq65279-clause-end : goal.returns-then-c-eq65279-clause-end
returns-then-c-eq65279-clause-end c =
    let utf8 : IsUtf8 c.in-Some.rest.now = search rules in
    (_, bytes_before c.args.text.now c.in-Some.rest.now (c.in-Some.c ∷ []) c.utf8.text utf8 (text_of_one _ _ _ c.in-Some.ensures.value))
