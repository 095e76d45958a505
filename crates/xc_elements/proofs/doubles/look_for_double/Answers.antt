use Rattle.std.proofs.Common.{◌≡◌, IfOk, map, ap, sym, subst, ◌∙◌}
use Rattle.xc_elements.proofs.DoubleLaws.{double_parts}
use Rattle.xc_lists.specs.Doubles.{has_same, lent_texts, are_same_texts}
use Rattle.xc_elements.proofs.doubles.look_for_double.Goals as goal

pub returns : goal.returns
returns c =
    subst (λ answer. IfOk c.has_equal_pairs.result (λ found. found ≡ answer))
    (ap (λ names. has_same are_same_texts (map lent_texts names)) c.as_slice.ensures.value
    ∙ ap (λ parts. has_same are_same_texts parts) c.in_ok-names.ensures
    ∙ sym (double_parts c.args.attributes.now))
    c.has_equal_pairs.ensures
